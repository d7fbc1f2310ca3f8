-- Which layouts some message may have.
use Rattle.std.proofs.Common.{◌≡◌, ℕ, Bool, true, false, Option, Some, None, refl, sym, ◌∙◌}
use Rattle.encapsulated.specs.declared.message.Direction.{Direction}
use Rattle.encapsulated.specs.declared.message.Direction.TheVariants.{Request, Response}
use Rattle.adapt_bytes.specs.declared.method.Method.{Method}
use Rattle.adapt_bytes.specs.declared.method.Method.TheVariants.{Reqmod, Respmod, Options}
use Rattle.encapsulated.specs.declared.offsets.Layout.{Layout}
use Rattle.encapsulated.specs.declared.parts.BodyPart.{BodyPart}
use Rattle.encapsulated.specs.declared.parts.BodyPart.TheVariants.{ReqBody, ResBody, OptBody, NullBody}
use Rattle.encapsulated.specs.Layouts.{IsWritableLayout, Rises, names, offsets, parts_of}
use Rattle.encapsulated.specs.Order.{any_front, heads_fit}
use Rattle.encapsulated.specs.Rows.{allowed}
use Rattle.encapsulated.proofs.OneAnswer.{front_of_whole}
use Rattle.encapsulated.proofs.RowLemmas.{any_front-whole, may_have}

-- a list of this message has them
abbrev Has : Method → Direction → Option ℕ → Option ℕ → BodyPart → ℕ → Bool
Has m d q r b o = any_front (allowed m d) (names (parts_of (record { req_hdr = q; res_hdr = r; body = b; offset = o })))

-- heads that fit a body are with it on some list of some message, whatever their offsets
some_list : (q r : Option ℕ) (b : BodyPart) (o : ℕ) → heads_fit b q r ≡ true → (m : Method) × (d : Direction) × (Has m d q r b o ≡ true)
some_list None None ReqBody o fits = (Reqmod, Request, refl)
some_list (Some p) None ReqBody o fits = (Reqmod, Request, refl)
some_list None (Some n) ReqBody o fits = absurd (cc)
some_list (Some p) (Some n) ReqBody o fits = absurd (cc)
some_list None None ResBody o fits = (Respmod, Request, refl)
some_list (Some p) None ResBody o fits = (Respmod, Request, refl)
some_list None (Some n) ResBody o fits = (Respmod, Request, refl)
some_list (Some p) (Some n) ResBody o fits = (Respmod, Request, refl)
some_list None None OptBody o fits = (Options, Response, refl)
some_list (Some p) None OptBody o fits = absurd (cc)
some_list None (Some n) OptBody o fits = absurd (cc)
some_list (Some p) (Some n) OptBody o fits = absurd (cc)
some_list None None NullBody o fits = (Respmod, Request, refl)
some_list (Some p) None NullBody o fits = (Respmod, Request, refl)
some_list None (Some n) NullBody o fits = (Respmod, Request, refl)
some_list (Some p) (Some n) NullBody o fits = (Respmod, Request, refl)

-- heads that don't fit a body are with it on no list of any message
no_list : (m : Method) (d : Direction) (q r : Option ℕ) (b : BodyPart) (o : ℕ) → heads_fit b q r ≡ false → Has m d q r b o ≡ false
no_list Reqmod Request None (Some n) ReqBody o unfit = refl
no_list Reqmod Response None (Some n) ReqBody o unfit = refl
no_list Respmod Request None (Some n) ReqBody o unfit = refl
no_list Respmod Response None (Some n) ReqBody o unfit = refl
no_list Options Request None (Some n) ReqBody o unfit = refl
no_list Options Response None (Some n) ReqBody o unfit = refl
no_list Reqmod Request (Some p) (Some n) ReqBody o unfit = refl
no_list Reqmod Response (Some p) (Some n) ReqBody o unfit = refl
no_list Respmod Request (Some p) (Some n) ReqBody o unfit = refl
no_list Respmod Response (Some p) (Some n) ReqBody o unfit = refl
no_list Options Request (Some p) (Some n) ReqBody o unfit = refl
no_list Options Response (Some p) (Some n) ReqBody o unfit = refl
no_list Reqmod Request (Some p) None OptBody o unfit = refl
no_list Reqmod Response (Some p) None OptBody o unfit = refl
no_list Respmod Request (Some p) None OptBody o unfit = refl
no_list Respmod Response (Some p) None OptBody o unfit = refl
no_list Options Request (Some p) None OptBody o unfit = refl
no_list Options Response (Some p) None OptBody o unfit = refl
no_list Reqmod Request None (Some n) OptBody o unfit = refl
no_list Reqmod Response None (Some n) OptBody o unfit = refl
no_list Respmod Request None (Some n) OptBody o unfit = refl
no_list Respmod Response None (Some n) OptBody o unfit = refl
no_list Options Request None (Some n) OptBody o unfit = refl
no_list Options Response None (Some n) OptBody o unfit = refl
no_list Reqmod Request (Some p) (Some n) OptBody o unfit = refl
no_list Reqmod Response (Some p) (Some n) OptBody o unfit = refl
no_list Respmod Request (Some p) (Some n) OptBody o unfit = refl
no_list Respmod Response (Some p) (Some n) OptBody o unfit = refl
no_list Options Request (Some p) (Some n) OptBody o unfit = refl
no_list Options Response (Some p) (Some n) OptBody o unfit = refl
no_list m d None None ReqBody o unfit = absurd (cc)
no_list m d (Some p) None ReqBody o unfit = absurd (cc)
no_list m d None None OptBody o unfit = absurd (cc)
no_list m d q r ResBody o unfit = absurd (cc)
no_list m d q r NullBody o unfit = absurd (cc)

-- of a layout that some message may have, what the test of its heads against its body gives is true
fits_or : (l : Layout) (t : Bool) → heads_fit l.body l.req_hdr l.res_hdr ≡ t → IsWritableLayout l → t ≡ true
fits_or l true e h = refl
fits_or l false e h =
    let m = h.0 in
    let d = h.1 in
    let front = any_front-whole (allowed m d) (names (parts_of l)) (front_of_whole (allowed m d) (names (parts_of l)) h.2.whole) in
    sym (no_list m d l.req_hdr l.res_hdr l.body l.offset e) ∙ front

-- the heads of a layout that some message may have fit its body
pub fits : (l : Layout) → IsWritableLayout l → heads_fit l.body l.req_hdr l.res_hdr ≡ true
fits l h = fits_or l (heads_fit l.body l.req_hdr l.res_hdr) refl h

-- a layout whose heads fit its body, and whose offsets rise, may be that of some message
pub writable : (l : Layout) → heads_fit l.body l.req_hdr l.res_hdr ≡ true → Rises (offsets (parts_of l)) → IsWritableLayout l
writable l fits rises =
    let some = some_list l.req_hdr l.res_hdr l.body l.offset fits in
    (some.0, some.1, may_have some.0 some.1 l some.2 rises)
