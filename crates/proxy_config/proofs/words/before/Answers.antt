-- The text ends at the first such byte.
use Rattle.std.proofs.Common.{◌≡◌, ◌≢◌, ◌==◌, ◌<◌, ℕ, List, length, get_or, take, rules, arith, eq-eqb, ne_eqb, sym, ap, ◌∙◌}
use Rattle.std.proofs.lemmas.List.{take_all}
use Rattle.std.proofs.lemmas.List.Sums.{position_or_len_is}
use Rattle.std.specs.List.{before_first}
use Rattle.proxy_config.proofs.words.before.Goals as goal

-- the bytes before the first of some byte are the text up to it
ends_at : (text : List ℕ) (byte end : ℕ) → end < length text → get_or text end 0 ≡ byte → ((k : ℕ) → k < end → get_or text k 0 ≢ byte)
    → take end text ≡ before_first (λ it. it == byte) text
ends_at text byte end inside here before =
    let is = position_or_len_is (λ it. it == byte) text end 0 (omega arith) (λ k below. ne_eqb _ byte (before k below))
    (λ _. eq-eqb _ byte here) in
    ap (λ n. take n text) (sym is)

-- a text without some byte is the whole of what stands before it
is_whole : (text : List ℕ) (byte : ℕ) → ((k : ℕ) → k < length text → get_or text k 0 ≢ byte) → text ≡ before_first (λ it. it == byte) text
is_whole text byte none =
    let is = position_or_len_is (λ it. it == byte) text (length text) 0 (omega arith) (λ k below. ne_eqb _ byte (none k below))
    (λ less. absurd (omega arith)) in
    sym (ap (λ n. take n text) is ∙ take_all (length text) text (omega arith))

pub returns-in-Some : goal.returns-in-Some
returns-in-Some c = ends_at c.args.text.now c.args.byte c.in-Some.end (search rules) (search rules) (search rules)

pub returns-in-None : goal.returns-in-None
returns-in-None c = is_whole c.args.text.now c.args.byte (search rules)
