-- A service's bytes have one reading.
use Rattle.std.proofs.Common.{◌≡◌, ℕ, Bool, true, false, List, [], ◌∷◌, ◌++◌, length, refl, ap, sym, subst, ◌∙◌, append_assoc, arith}
use Rattle.icap_head.specs.Folds.{unfolded}
use Rattle.icap_head.specs.Heads.{Response, HasResponse, StartsResponse}
use Rattle.icap_head.proofs.OneReading.{response_unique}
use Rattle.icap_head.proofs.Folding.{has_folded-append}
use Rattle.encapsulated.specs.declared.offsets.Layout.{Layout}
use Rattle.encapsulated.proofs.OneAnswer.{parts_unique, layout_unique}
use Rattle.icap_chunks.proofs.Written.{one_reading}
use Rattle.trace_core.specs.declared.history.Point.{Point}
use Rattle.icap_client.specs.Replies.{Final, IsFinal, IsAnswer, IsContinueOrNothing, IsBareReply, IsMod, IsBody, HasLayout, lists_of}
use Rattle.icap_client.specs.Replies.{has_body}
use Rattle.icap_client.specs.Replies.Final.{unchanged, changed}

-- a text splits in one way into a part of a length and the rest
pub split_one : (p q r s : List ℕ) → p ++ q ≡ r ++ s → length p ≡ length r → (p ≡ r) × (q ≡ s)
split_one [] q [] s e l = (refl, e)
split_one [] q (y ∷ r) s e l = absurd (omega arith)
split_one (x ∷ p) q [] s e l = absurd (omega arith)
split_one (x ∷ p) q (y ∷ r) s e l =
    let first : x ≡ y = cc in
    let rest : p ++ q ≡ r ++ s = cc in
    let same = split_one p q r s rest (omega arith) in
    (ap (λ (b : ℕ). b ∷ p) first ∙ ap (λ (t : List ℕ). y ∷ t) same.0, same.1)

-- the text begins with the head of a response of this status
pub record First (text : List ℕ) (status : ℕ) : Type 0 where
  pub value : Response
  pub size : ℕ
  pub has : HasResponse text value size
  pub status_is : value.status ≡ status

-- a bare reply with more bytes after it begins with a head of its status
pub first_bare : (point : Point) (status : ℕ) (text more : List ℕ) → IsBareReply point status text → First (text ++ more) status
first_bare point status text more h = record {
  value = h.value;
  size = length text;
  has = has_folded-append (StartsResponse h.value) text more h.value.fields (length text) h.head;
  status_is = h.status_is;
}

-- a text that begins with a head of a status does so with more bytes after it
pub longer : (text more : List ℕ) (status : ℕ) → First text status → First (text ++ more) status
longer text more status h = record {
  value = h.value;
  size = h.size;
  has = has_folded-append (StartsResponse h.value) text more h.value.fields h.size h.has;
  status_is = h.status_is;
}

-- a bare reply begins with a head of its status
first_itself : (point : Point) (status : ℕ) (text : List ℕ) → IsBareReply point status text → First text status
first_itself point status text h = record { value = h.value; size = length text; has = h.head; status_is = h.status_is }

-- a whole 200 begins with a head of status 200
first_mod : (point : Point) (layout : Layout) (head body text : List ℕ) → IsMod point layout head body text → First text 200
first_mod point layout head body text h =
    let icap : First h.heads_are.icap 200 = record {
      value = h.heads_are.is.value;
      size = length h.heads_are.icap;
      has = h.heads_are.is.head;
      status_is = h.heads_are.is.status_is;
    } in
    subst (λ (t : List ℕ). First t 200) (sym h.text_is)
    (longer h.heads h.rest 200 (subst (λ (t : List ℕ). First t 200) (sym h.heads_are.text_is) (longer h.heads_are.icap head 200 icap)))

-- the status of a final response: 204 for one that changes nothing, else 200
code : Final → ℕ
code unchanged = 204
code (changed layout head body) = 200

-- a final response begins with a head of its status
first_final : (point : Point) (f : Final) (text : List ℕ) → IsFinal point f text → First text (code f)
unfolding code
first_final point unchanged text h = first_itself point 204 text h
first_final point (changed layout head body) text h = first_mod point layout head body text h

-- a text begins with a head of one status at most
pub one_status : (text : List ℕ) (a b : ℕ) → First text a → First text b → a ≡ b
one_status text a b f g =
    let same = response_unique (unfolded text) f.value g.value f.size g.size f.has g.has in
    sym f.status_is ∙ (ap (λ (v : Response). v.status) same.0 ∙ g.status_is)

-- the lists of a response say one layout at most
pub layout_one : (point : Point) (lists : List (List ℕ)) (a b : Layout) → HasLayout point lists a → HasLayout point lists b → a ≡ b
layout_one point [] a b h i = absurd h
layout_one point (list ∷ []) a b h i = layout_unique a b (parts_unique list _ _ h.parts i.parts)
layout_one point (list ∷ other ∷ more) a b h i = absurd h

-- a text has one body at most, in chunks or none
pub body_one : (t : Bool) (text a b : List ℕ) → IsBody t text a → IsBody t text b → a ≡ b
body_one true text a b h i = (one_reading text a b h.0 i.0 h.1 i.1).0
body_one false text a b h i = h.1 ∙ sym i.1

-- a text is one 200 at most, of one layout, head and body
mod_one : (point : Point) (l k : Layout) (head head' body body' text : List ℕ) → IsMod point l head body text
    → IsMod point k head' body' text → changed l head body ≡ changed k head' body'
mod_one point l k head head' body body' text h i =
    let a : text ≡ h.heads_are.icap ++ (head ++ h.rest) =
    h.text_is ∙ (ap (λ (t : List ℕ). t ++ h.rest) h.heads_are.text_is ∙ append_assoc h.heads_are.icap head h.rest) in
    let b : text ≡ i.heads_are.icap ++ (head' ++ i.rest) =
    i.text_is ∙ (ap (λ (t : List ℕ). t ++ i.rest) i.heads_are.text_is ∙ append_assoc i.heads_are.icap head' i.rest) in
    let v = h.heads_are.is.value in
    let w = i.heads_are.is.value in
    let fa : HasResponse text v (length h.heads_are.icap) =
    subst (λ (t : List ℕ). HasResponse t v (length h.heads_are.icap)) (sym a)
    (has_folded-append (StartsResponse v) h.heads_are.icap (head ++ h.rest) v.fields (length h.heads_are.icap) h.heads_are.is.head) in
    let fb : HasResponse text w (length i.heads_are.icap) =
    subst (λ (t : List ℕ). HasResponse t w (length i.heads_are.icap)) (sym b)
    (has_folded-append (StartsResponse w) i.heads_are.icap (head' ++ i.rest) w.fields (length i.heads_are.icap) i.heads_are.is.head) in
    let same = response_unique (unfolded text) v w (length h.heads_are.icap) (length i.heads_are.icap) fa fb in
    let layouts : l ≡ k = layout_one point (lists_of w) l k (subst (λ (u : Response). HasLayout point (lists_of u) l) same.0
    h.heads_are.is.list) i.heads_are.is.list in
    let cut = split_one h.heads_are.icap (head ++ h.rest) i.heads_are.icap (head' ++ i.rest) (sym a ∙ b) same.1 in
    let cut' = split_one head h.rest head' i.rest cut.1 (h.heads_are.size
    ∙ (ap (λ (m : Layout). m.offset) layouts ∙ sym i.heads_are.size)) in
    let bodies : body ≡ body' = body_one (has_body k.body) i.rest body body'
    (subst (λ (t : List ℕ). IsBody (has_body k.body) t body) cut'.1 (subst (λ (m : Layout). IsBody (has_body m.body) h.rest body) layouts
    h.body_is)) i.body_is in
    ap (λ (m : Layout). changed m head body) layouts ∙ (ap (λ (t : List ℕ). changed k t body) cut'.0
    ∙ ap (λ (t : List ℕ). changed k head' t) bodies)

-- a text is one final response at most
final_one : (point : Point) (f g : Final) (text : List ℕ) → IsFinal point f text → IsFinal point g text → f ≡ g
unfolding code
final_one point unchanged unchanged text h i = refl
final_one point unchanged (changed l d b) text h i =
    absurd (omega (arith, one_status text 204 200 (first_final point unchanged text h) (first_final point (changed l d b) text i)))
final_one point (changed l d b) unchanged text h i =
    absurd (omega (arith, one_status text 200 204 (first_final point (changed l d b) text h) (first_final point unchanged text i)))
final_one point (changed l d b) (changed k e c) text h i = mod_one point l k d e b c text h i

-- a final response doesn't begin with a head of status 100
no_100 : (point : Point) (f : Final) (text : List ℕ) → First text 100 → IsFinal point f text → ⊥
unfolding code
no_100 point unchanged text h i = omega (arith, one_status text 100 204 h (first_final point unchanged text i))
no_100 point (changed l d b) text h i = omega (arith, one_status text 100 200 h (first_final point (changed l d b) text i))

-- two splits of a text into a 100 or none and a final response say the same
answer_by : (point : Point) (c d : Bool) (f g : Final) (text before last first rest : List ℕ) → text ≡ before ++ last → text ≡ first ++ rest
    → IsContinueOrNothing point c before → IsContinueOrNothing point d first
    → IsFinal point f last → IsFinal point g rest → (c ≡ d) × (f ≡ g)
answer_by point true true f g text before last first rest a b h i m n =
    let fa : HasResponse text h.value (length before) =
    subst (λ (t : List ℕ). HasResponse t h.value (length before)) (sym a)
    (has_folded-append (StartsResponse h.value) before last h.value.fields (length before) h.head) in
    let fb : HasResponse text i.value (length first) =
    subst (λ (t : List ℕ). HasResponse t i.value (length first)) (sym b)
    (has_folded-append (StartsResponse i.value) first rest i.value.fields (length first) i.head) in
    let same = response_unique (unfolded text) h.value i.value (length before) (length first) fa fb in
    let cut = split_one before last first rest (sym a ∙ b) same.1 in
    (refl, final_one point f g rest (subst (λ (t : List ℕ). IsFinal point f t) cut.1 m) n)
answer_by point true false f g text before last first rest a b h i m n =
    let whole : text ≡ rest = b ∙ ap (λ (t : List ℕ). t ++ rest) i in
    absurd (no_100 point g rest (subst (λ (t : List ℕ). First t 100) (sym a ∙ whole) (first_bare point 100 before last h)) n)
answer_by point false true f g text before last first rest a b h i m n =
    let whole : text ≡ last = a ∙ ap (λ (t : List ℕ). t ++ last) h in
    absurd (no_100 point f last (subst (λ (t : List ℕ). First t 100) (sym b ∙ whole) (first_bare point 100 first rest i)) m)
answer_by point false false f g text before last first rest a b h i m n =
    let one : text ≡ last = a ∙ ap (λ (t : List ℕ). t ++ last) h in
    let two : text ≡ rest = b ∙ ap (λ (t : List ℕ). t ++ rest) i in
    (refl, final_one point f g rest (subst (λ (t : List ℕ). IsFinal point f t) (sym one ∙ two) m) n)

-- a text is one answer at most, with a 100 or without
pub answer_one : (point : Point) (c d : Bool) (f g : Final) (text : List ℕ) → IsAnswer point c f text → IsAnswer point d g text
    → (c ≡ d) × (f ≡ g)
answer_one point c d f g text h i = answer_by point c d f g text h.before h.last i.before i.last h.text_is i.text_is h.interim i.interim
    h.final_is i.final_is
