-- A line is read in one way.
use Rattle.std.proofs.Common.{◌≡◌, ℕ, zero, suc, ◌+◌, ◌<◌, List, [], ◌∷◌, ◌++◌, length, get_or, refl, sym, ap, ◌∙◌, subst, arith, codes}
use Rattle.std.proofs.Common.{append_assoc, length-append, Option, Some, None}
use Rattle.std.proofs.lemmas.List.{append_cancel_right, get_or_at}
use Rattle.std.specs.declared.net.ipv4_addr.Ipv4Addr.{Ipv4Addr}
use Rattle.adapt_bytes.specs.Text.{Lacks}
use Rattle.adapt_bytes.proofs.Cuts.{Lacks-tail, first_cut}
use Rattle.proxy_header.specs.declared.reading.Reading.{Reading}
use Rattle.proxy_header.specs.declared.reading.Reading.TheVariants.{Whole, Partial, Fault}
use Rattle.proxy_header.specs.declared.reading.Said.{Said}
use Rattle.proxy_header.specs.declared.reading.Said.TheVariants.{From, Unknown, Nothing}
use Rattle.proxy_header.specs.Headers.{Answers, Begins, IsRawLine, IsSaid, is_reading}
use Rattle.proxy_header.specs.Lines.{IsConnection, IsCutLine, IsLine, Says}

-- nothing is said where neither beginning fits
pub says_not : (line : List ℕ) → ((rest : List ℕ) → line ≡ codes "PROXY UNKNOWN" ++ rest → ⊥)
    → ((text : List ℕ) (ip : Ipv4Addr) → line ≡ codes "PROXY TCP4 " ++ text → IsConnection text ip → ⊥)
    → (from : Option Ipv4Addr) → Says line from → ⊥
says_not line unknown other None h = unknown h.0 h.1
says_not line unknown other (Some ip) h = other h.0 ip h.1 h.2

-- where a line is PROXY TCP4 and a connection, what comes after PROXY TCP4 in it is that connection
pub same_text : (line text other : List ℕ) (ip : Ipv4Addr) → line ≡ codes "PROXY TCP4 " ++ text → line ≡ codes "PROXY TCP4 " ++ other
    → IsConnection other ip → IsConnection text ip
same_text line text other ip e f h = let same : other ≡ text = cc in subst (λ t. IsConnection t ip) same h

-- a text that lacks a byte lacks it after another byte is put before it
pub lacks_cons : (c b : ℕ) (text : List ℕ) → (b ≡ c → ⊥) → Lacks c text → Lacks c (b ∷ text)
lacks_cons c b text other lacks zero inside is = other is
lacks_cons c b text other lacks (suc k) inside is = lacks k (omega arith) is

-- an empty text lacks each byte
pub lacks_nil : (c : ℕ) → Lacks c []
lacks_nil c k inside is = omega arith

-- a line without a line feed has none with a CR after it
pub lacks_cr : (line : List ℕ) → Lacks 10 line → Lacks 10 (line ++ 13 ∷ [])
lacks_cr [] lacks = lacks_cons 10 13 [] (λ e. omega arith) (lacks_nil 10)
lacks_cr (b ∷ line) lacks = lacks_cons 10 b (line ++ 13 ∷ []) (lacks 0 (omega arith)) (lacks_cr line (Lacks-tail 10 b line lacks))

-- a text without a byte isn't cut at it
lacks_cut : (c : ℕ) (text a x : List ℕ) → Lacks c text → text ≡ a ++ c ∷ x → ⊥
lacks_cut c text a x lacks cut =
    let len = ap length cut in
    lacks (length a) (omega (arith, length-append a (c ∷ x))) (ap (λ t. get_or t (length a) 0) cut ∙ get_or_at a c x 0 (length a) refl)

-- a header, with what stands before its line feed
spelled_raw : (bytes header line behind : List ℕ) → bytes ≡ header ++ behind → header ≡ line ++ 13 ∷ 10 ∷ []
    → bytes ≡ (line ++ 13 ∷ []) ++ 10 ∷ behind
spelled_raw bytes header line behind cut spelled =
    cut ∙ ap (λ h. h ++ behind) spelled ∙ append_assoc line (13 ∷ 10 ∷ []) behind ∙ sym (append_assoc line (13 ∷ []) (10 ∷ behind))

-- without a line feed there is no header
pub no_line : (bytes : List ℕ) (from : Option Ipv4Addr) (size : ℕ) → Lacks 10 bytes → Begins IsLine bytes from size → ⊥
no_line bytes from size lacks b =
    lacks_cut 10 bytes (b.is.line ++ 13 ∷ []) b.behind lacks (spelled_raw bytes b.header b.is.line b.behind b.spelled b.is.spelled)

-- a header with CRLF at its end is one byte longer than its line with the CR
length_cr : (line header : List ℕ) → header ≡ line ++ 13 ∷ 10 ∷ [] → length header ≡ length (line ++ 13 ∷ []) + 1
length_cr line header e =
    let l = ap length e in omega (arith, l, length-append line (13 ∷ 10 ∷ []), length-append line (13 ∷ []))

-- what stands before the first line feed is the header's line
pub raw_is : (bytes raw rest : List ℕ) (from : Option Ipv4Addr) (size : ℕ) → bytes ≡ raw ++ 10 ∷ rest → Lacks 10 raw
    → (b : Begins IsLine bytes from size)
    → (raw ≡ b.is.line ++ 13 ∷ []) × (length raw < 107)
raw_is bytes raw rest from size cut lacks b =
    let same : raw ≡ b.is.line ++ 13 ∷ [] = (first_cut 10 raw (b.is.line ++ 13 ∷ []) rest b.behind lacks (lacks_cr b.is.line b.is.one)
    (sym cut ∙ spelled_raw bytes b.header b.is.line b.behind b.spelled b.is.spelled)).0 in
    let l = length_cr b.is.line b.header b.is.spelled in
    let k = ap length same in
    let short = b.is.short in
    (same, omega (arith, l, k, short))

-- a prefix of a text that lacks a byte lacks it
pub lacks_front : (c : ℕ) (line more : List ℕ) → Lacks c (line ++ more) → Lacks c line
lacks_front c [] more lacks = lacks_nil c
lacks_front c (b ∷ line) more lacks = lacks_cons c b line (lacks 0 (omega arith))
    (lacks_front c line more (Lacks-tail c b (line ++ more) lacks))

-- the answer for what stands before the line feed is the answer for all bytes
pub line_answers : (bytes raw rest : List ℕ) (reading : Reading) → bytes ≡ raw ++ 10 ∷ rest → Lacks 10 raw → IsRawLine raw reading
    → Answers IsLine IsCutLine bytes reading
line_answers bytes raw rest (Whole header) cut lacks h =
    let line = h.0 in
    let is = h.1 in
    let short = h.3 in
    let size = h.4 in
    let l = length_cr line (line ++ 13 ∷ 10 ∷ []) refl in
    let k = ap length is in
    record {
      header = line ++ 13 ∷ 10 ∷ [];
      behind = rest;
      spelled = cut ∙ ap (λ r. r ++ 10 ∷ rest) is ∙ append_assoc line (13 ∷ []) (10 ∷ rest) ∙ sym (append_assoc line (13 ∷ 10 ∷ []) rest);
      is = record {
        line = line;
        spelled = refl;
        one = lacks_front 10 line (13 ∷ []) (subst (Lacks 10) is lacks);
        short = omega (arith, l, k, short);
        says = h.2;
      };
      counted = omega (arith, l, k, size);
    }
line_answers bytes raw rest Partial cut lacks h = absurd h
line_answers bytes raw rest Fault cut lacks h = (
  (λ from size b. let r = raw_is bytes raw rest from size cut lacks b in h b.is.line from r.0 b.is.says r.1),
  (λ part. lacks_cut 10 bytes raw rest part.unended cut),
)

-- what a line says is what it is read as
pub raw_answers : (raw line : List ℕ) (said : Said) → raw ≡ line ++ 13 ∷ [] → length raw < 107 → IsSaid (Says line) said
    → IsRawLine raw (is_reading said (length raw + 1))
raw_answers raw line (From ip) is short h = (line, is, h, short, refl)
raw_answers raw line Unknown is short h = (line, is, h, short, refl)
raw_answers raw line Nothing is short h = λ other from same says _.
    let e : other ≡ line = append_cancel_right other line (13 ∷ []) (sym same ∙ is) in
    h from (subst (λ l. Says l from) e says)
