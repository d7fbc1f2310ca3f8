-- The list of a request is read back by a server.
use Rattle.std.proofs.Common.{◌≡◌, ℕ, ◌+◌, ◌<◌, Bool, true, false, List, [], ◌∷◌, ◌++◌, refl, ap, sym, ◌∙◌, append_assoc, arith, codes}
use Rattle.adapt_bytes.specs.declared.limits.TheConstants.{COUNT_LIMIT}
use Rattle.adapt_bytes.specs.Numeral.{numeral}
use Rattle.icap_chunks.specs.Grammar.{crlf}
use Rattle.encapsulated.specs.declared.offsets.Layout.{Layout}
use Rattle.encapsulated.specs.declared.parts.BodyPart.{BodyPart}
use Rattle.encapsulated.specs.declared.parts.BodyPart.TheVariants.{ReqBody, ResBody, NullBody}
use Rattle.encapsulated.specs.declared.parts.Part.TheVariants.{ReqHdr, ResHdr, Body}
use Rattle.encapsulated.specs.declared.message.Direction.TheVariants.{Request}
use Rattle.encapsulated.specs.Grammar.{name_of}
use Rattle.encapsulated.specs.Layouts.{IsLayout, MayHave, written}
use Rattle.encapsulated.proofs.WriteBack.{written_is, reads_back}
use Rattle.trace_core.specs.declared.history.Point.{Point}
use Rattle.trace_core.specs.declared.history.Point.TheVariants.{Reqmod, Respmod}
use Rattle.trace_core.specs.Points.{method_of}
use Rattle.icap_client.specs.RequestHead.{joined, list_pieces, layout_of, IsReadBack}

-- the numeral of 0 is one digit 0
zero_is : numeral 10 0 ≡ 48 ∷ []
unfolding numeral
zero_is = refl

-- two line ends after a number are two line ends after the whole list
behind_number : (a b n e : List ℕ) → (((a ++ b) ++ n) ++ e) ++ e ≡ (a ++ (b ++ n)) ++ (e ++ e)
behind_number a b n e = append_assoc ((a ++ b) ++ n) e e ∙ ap (λ (t : List ℕ). t ++ (e ++ e)) (append_assoc a b n)

-- the list with one head, and with two, by the text of the number 0
abbrev one_head : BodyPart → List ℕ → List ℕ → List ℕ
one_head body zero n = ((name_of ReqHdr ++ 61 ∷ zero) ++ codes ", ") ++ (name_of (Body body) ++ 61 ∷ n)

abbrev two_heads : BodyPart → List ℕ → List ℕ → List ℕ → List ℕ
two_heads body zero m n = ((name_of ReqHdr ++ 61 ∷ zero) ++ codes ", ")
    ++ (((name_of ResHdr ++ 61 ∷ m) ++ codes ", ") ++ (name_of (Body body) ++ 61 ∷ n))

-- the lines that end a head with this list
abbrev lines_of : List ℕ → List ℕ
lines_of list = codes "Encapsulated: " ++ (list ++ (crlf ++ crlf))

-- the lines of a list with one head are those of the layout that it writes
one_is : (body : BodyPart) (req : ℕ) (l : Layout) → written l ≡ one_head body (numeral 10 0) (numeral 10 req)
    → lines_of (one_head body (48 ∷ []) (numeral 10 req)) ≡ lines_of (written l)
one_is body req l e = ap (λ (zero : List ℕ). lines_of (one_head body zero (numeral 10 req))) (sym zero_is)
    ∙ ap (λ (list : List ℕ). lines_of list) (sym e)

-- the lines of a list with two heads are those of the layout that it writes
two_is : (body : BodyPart) (req sum : ℕ) (l : Layout) → written l ≡ two_heads body (numeral 10 0) (numeral 10 req) (numeral 10 sum)
    → lines_of (two_heads body (48 ∷ []) (numeral 10 req) (numeral 10 sum)) ≡ lines_of (written l)
two_is body req sum l e =
    ap (λ (zero : List ℕ). lines_of (two_heads body zero (numeral 10 req) (numeral 10 sum))) (sym zero_is)
    ∙ ap (λ (list : List ℕ). lines_of list) (sym e)

-- the pieces of a request's list are the lines of its layout as it is written
lines_are : (point : Point) (null : Bool) (req res : ℕ)
    → joined (list_pieces point null req res) [] ≡ lines_of (written (layout_of point null req res))
unfolding numeral
lines_are Reqmod true req res =
    let l = layout_of Reqmod true req res in
    let is : written l ≡ one_head NullBody (numeral 10 0) (numeral 10 req) = written_is l in
    ap (λ (t : List ℕ). codes "Encapsulated: req-hdr=0, null-body=" ++ t) (append_assoc (numeral 10 req) crlf crlf)
    ∙ one_is NullBody req l is
lines_are Reqmod false req res =
    let l = layout_of Reqmod false req res in
    let is : written l ≡ one_head ReqBody (numeral 10 0) (numeral 10 req) = written_is l in
    ap (λ (t : List ℕ). codes "Encapsulated: req-hdr=0, req-body=" ++ t) (append_assoc (numeral 10 req) crlf crlf) ∙ one_is ReqBody req l is
lines_are Respmod true req res =
    let l = layout_of Respmod true req res in
    let is : written l ≡ two_heads NullBody (numeral 10 0) (numeral 10 req) (numeral 10 (req + res)) = written_is l in
    ap (λ (t : List ℕ). codes "Encapsulated: req-hdr=0, res-hdr=" ++ t)
    (behind_number (numeral 10 req ++ codes ", ") (codes "null-body=") (numeral 10 (req + res)) crlf)
    ∙ two_is NullBody req (req + res) l is
lines_are Respmod false req res =
    let l = layout_of Respmod false req res in
    let is : written l ≡ two_heads ResBody (numeral 10 0) (numeral 10 req) (numeral 10 (req + res)) = written_is l in
    ap (λ (t : List ℕ). codes "Encapsulated: req-hdr=0, res-hdr=" ++ t)
    (behind_number (numeral 10 req ++ codes ", ") (codes "res-body=") (numeral 10 (req + res)) crlf)
    ∙ two_is ResBody req (req + res) l is

-- a request may have the layout that its list says
may_be : (point : Point) (null : Bool) (req res : ℕ) → MayHave (method_of point) Request (layout_of point null req res)
may_be Reqmod true req res = record { whole = (1, omega arith, refl); rises = (refl, (omega arith, tt)) }
may_be Reqmod false req res = record { whole = (0, omega arith, refl); rises = (refl, (omega arith, tt)) }
may_be Respmod true req res = record { whole = (1, omega arith, refl); rises = (refl, (omega arith, (omega arith, tt))) }
may_be Respmod false req res = record { whole = (0, omega arith, refl); rises = (refl, (omega arith, (omega arith, tt))) }

-- the written list of a request's layout says that layout, while its heads are few enough bytes to count
layout_by : (point : Point) (null : Bool) (req res : ℕ) → req + res < COUNT_LIMIT
    → IsLayout (method_of point) Request (written (layout_of point null req res)) (layout_of point null req res)
layout_by Reqmod null req res small = record {
  parts = reads_back (layout_of Reqmod null req res) (omega arith) tt (omega (arith, small));
  may = may_be Reqmod null req res;
}
layout_by Respmod null req res small = record {
  parts = reads_back (layout_of Respmod null req res) (omega arith) (omega (arith, small))
      (omega (arith, small));
  may = may_be Respmod null req res;
}

-- a server reads a request's list as the layout it was written from, while its heads are few enough bytes to count
pub read_back : (point : Point) (null : Bool) (req res : ℕ) → req + res < COUNT_LIMIT → IsReadBack point null req res
read_back point null req res small = record {
  list = written (layout_of point null req res);
  lines = lines_are point null req res;
  layout = layout_by point null req res small;
}
