-- The lines of a text are read one after the other.
use Rattle.std.proofs.Common.{◌≡◌, ℕ, ◌+◌, ◌≤◌, List, [], ◌∷◌, ◌++◌, length, append-nil, inl, inr, refl, sym, ap, ◌∙◌, subst, arith}
use Rattle.std.proofs.lemmas.List.{append_assoc}
use Rattle.std.proofs.lemmas.List.Splits.{length-slice_split}
use Rattle.std.proofs.lemmas.List.Sums.{count_by-le-length}
use Rattle.proxy_config.specs.declared.host.Host.{Host}
use Rattle.proxy_config.specs.HostsFile.{is_line_end, lines_of, AddsLine, AreSaid, IsBadAt, IsBadLine, IsFirstBad}

-- of these lines the rest is still to be read: so many were, and these are their hosts
pub record Reading (lines rest : List (List ℕ)) (hosts : List Host) (number : ℕ) : Type 0 where
  pub said : (later : List Host) → AreSaid rest later → AreSaid lines (hosts ++ later)
  pub bad : (n : ℕ) → IsFirstBad (number + 1) rest n → IsFirstBad 1 lines n
  pub count : number + length rest ≡ length lines

-- before any line was read, all are still to come, and there are no hosts
pub starts : (lines : List (List ℕ)) → Reading lines lines [] 0
starts lines = record { said = λ later is. is; bad = λ n is. is; count = omega arith }

-- one more line was read
pub reads_one : (lines before rest : List (List ℕ)) (line : List ℕ) (hosts new : List Host) (number : ℕ) → Reading lines before hosts number
    → before ≡ line ∷ rest
    → AddsLine line hosts new → Reading lines rest new (number + 1)
reads_one lines before rest line hosts new number reading split (added, now, says) =
    let at : Reading lines (line ∷ rest) hosts number = subst (λ ls. Reading lines ls hosts number) split reading in
    record {
      said = λ later is.
          let all : AreSaid lines (hosts ++ (added ++ later)) = at.said (added ++ later) (added, later, says, is, refl) in
          subst (λ hs. AreSaid lines hs) (sym (ap (λ hs. hs ++ later) now ∙ append_assoc hosts added later)) all;
      bad = λ n is. at.bad n (inr ((added, says), is));
      count = omega (arith, at.count);
    }

-- the next line can't be read
pub is_bad_at : (text : List ℕ) (before rest : List (List ℕ)) (line : List ℕ) (hosts : List Host) (number : ℕ)
    → Reading (lines_of text) before hosts number → before ≡ line ∷ rest
    → IsBadLine line → IsBadAt text (number + 1)
is_bad_at text before rest line hosts number reading split bad =
    let at : Reading (lines_of text) (line ∷ rest) hosts number = subst (λ ls. Reading (lines_of text) ls hosts number) split reading in
    at.bad (number + 1) (inl (refl, bad))

-- all lines were read
pub ends : (lines rest : List (List ℕ)) (hosts : List Host) (number : ℕ) → Reading lines rest hosts number → rest ≡ [] → AreSaid lines hosts
ends lines rest hosts number reading none =
    let at : Reading lines [] hosts number = subst (λ ls. Reading lines ls hosts number) none reading in
    subst (λ hs. AreSaid lines hs) (append-nil hosts) (at.said [] refl)

-- a text has at most one line more than bytes
pub few_lines : (text : List ℕ) → length (lines_of text) ≤ length text + 1
few_lines text = omega (arith, length-slice_split is_line_end text, count_by-le-length is_line_end text)
