-- Where the chosen message goes, through each pass.
use Rattle.std.proofs.Common.{◌≡◌, ℕ, ◌+◌, inl, inr, Bool, true, false, ◌||◌, List, [], ◌∷◌, ◌++◌, length, arith, refl, sym, ◌∙◌, subst}
use Rattle.std.proofs.lemmas.Bool.{false≢true}
use Rattle.std.specs.Prelude.{if◌then◌else◌}
use Rattle.trace_core.specs.declared.history.Seen.{Seen}
use Rattle.trace_core.specs.declared.history.Plan.{Plan}
use Rattle.trace_core.specs.declared.history.Point.{Point}
use Rattle.trace_core.specs.declared.history.Point.TheVariants.{Reqmod, Respmod}
use Rattle.trace_core.specs.declared.history.Event.{Event}
use Rattle.trace_core.specs.declared.history.Event.TheVariants.{Usr}
use Rattle.trace_core.specs.History.{seen, in_bytes, ad_bytes, usr_bytes, is_plain}
use Rattle.trace_core.specs.Legal.{IsLegal}
use Rattle.trace_core.specs.View.{after}
use Rattle.trace_core.specs.Turns.{is_of_hop}
use Rattle.adapt_sides.specs.Tapes.{chosen, IsUndelivered}
use Rattle.adapt_sides.specs.Turns.{Gift}
use Rattle.adapt_sides.specs.Turns.Gift.{nothing, message, refusal}
use Rattle.adapt_turn.specs.Stands.{WriterView, HopsAre, IsRefusing, other_gift, IsDelivered}
use Rattle.adapt_turn.proofs.Carry.{off_hop, not_true, KeepsChosen}

-- what a writer says of the events of others
abbrev pub KeepsGiven : WriterView → Type 0
KeepsGiven own = (plan : Plan) (before : List Event) (event : Event) (head original adapted bytes more taken : List ℕ)
    → IsLegal plan (event ∷ before) → is_of_hop event ≡ false
    → length original ≡ (seen plan before).received → length adapted ≡ (seen plan before).adapted_received
    → length bytes ≡ in_bytes event → length more ≡ ad_bytes event
    → own.given (seen plan before) head (chosen (seen plan before) original adapted) taken
    → own.given (seen plan (event ∷ before)) head (chosen (seen plan (event ∷ before)) (original ++ bytes) (adapted ++ more)) taken

-- two numbers that are both nothing sum to nothing, whether or not the first is counted
zero_if : (c : Bool) (m n : ℕ) → m ≡ 0 → n ≡ 0 → (if c then m else 0) + n ≡ 0
zero_if true m n e f = omega (arith, e, f)
zero_if false m n e f = omega (arith, f)

-- an event that isn't the next hop's has no byte for the next hop
none_given : (event : Event) → off_hop event ≡ true → usr_bytes event ≡ 0
none_given (Usr n) o = absurd (false≢true o)
none_given _ o = refl

-- where no byte of a body went out none has after an event that isn't the next hop's
none_out : (x : Seen) (event : Event) → off_hop event ≡ true → IsUndelivered x → IsUndelivered (after x event)
none_out x event o u = (
  zero_if (is_plain x.plan.kind || x.no_mod) (usr_bytes event) x.original_delivered (none_given event o) u.0,
  zero_if x.modified (usr_bytes event) x.adapted_delivered (none_given event o) u.1,
)

-- where the message goes stands with events of others, if both writers keep what they gave
pub hops_others : (next back : WriterView) → KeepsGiven next → KeepsGiven back → (to_next to_back : List ℕ)
    → KeepsChosen (λ x body. HopsAre next back x body to_next to_back)
hops_others next back nk bk to_next to_back plan before event original adapted bytes more legal o lo la lb lm p =
    elim p [
      | inl none ↦ inl (record {
        next_is = none.next_is;
        back_is = none.back_is;
        none = none_out (seen plan before) event o none.none;
        next_aside_is = none.next_aside_is;
        back_aside_is = none.back_aside_is;
      })
      | inr (inl on) ↦ inr (inl (record {
        begun = on.begun;
        alone = λ c. on.alone legal.0.0;
        head = on.head;
        given_is = nk plan before event on.head original adapted bytes more to_next legal (not_true (is_of_hop event) o) lo la lb lm
            on.given_is;
        aside_is = on.aside_is;
      }))
      | inr (inr (inl on)) ↦ inr (inr (inl (record {
        begun = on.begun;
        alone = λ c. on.alone legal.0.0;
        head = on.head;
        given_is = bk plan before event on.head original adapted bytes more to_back legal (not_true (is_of_hop event) o) lo la lb lm
            on.given_is;
        aside_is = on.aside_is;
      })))
      | inr (inr (inr over)) ↦ absurd (false≢true (sym legal.0.0 ∙ over.over))
    ]

-- the two wires, named the other way round
pub hops_swap : (next back : WriterView) (x : Seen) (body to_next to_back : List ℕ) → HopsAre next back x body to_next to_back
    → HopsAre back next x body to_back to_next
hops_swap next back x body to_next to_back p =
    elim p [
      | inl none ↦ inl (record {
        next_is = none.back_is;
        back_is = none.next_is;
        none = none.none;
        next_aside_is = none.back_aside_is;
        back_aside_is = none.next_aside_is;
      })
      | inr (inl on) ↦ inr (inr (inl on))
      | inr (inr (inl on)) ↦ inr (inl on)
      | inr (inr (inr over)) ↦ inr (inr (inr (record {
        over = over.over;
        none = over.none;
        next_aside_is = over.back_aside_is;
        back_aside_is = over.next_aside_is;
      })))
    ]

-- the source's wire took more of an answer
pub back_gives : (next back back' : WriterView) (x y : Seen) (body to_next to_back delta : List ℕ)
    → x.closed ≡ false → (back.gift ≡ nothing → ⊥) → back'.gift ≡ back.gift
    → ((head taken : List ℕ) → back.given x head body taken → back'.given y head body (taken ++ delta))
    → HopsAre next back x body to_next to_back → HopsAre next back' y body to_next (to_back ++ delta)
back_gives next back back' x y body to_next to_back delta c busy same on_ p =
    elim p [
      | inl none ↦ absurd (busy none.back_is)
      | inr (inl on) ↦ absurd (busy (on.alone c))
      | inr (inr (inl on)) ↦ inr (inr (inl (record {
        begun = same ∙ on.begun;
        alone = λ w. on.alone c;
        head = on.head;
        given_is = on_ on.head to_back on.given_is;
        aside_is = on.aside_is;
      })))
      | inr (inr (inr over)) ↦ absurd (false≢true (sym c ∙ over.over))
    ]

-- the next hop's wire took more of the message
pub next_gives : (next next' back : WriterView) (x y : Seen) (body to_next to_back delta : List ℕ)
    → x.closed ≡ false → back.gift ≡ nothing → (next.gift ≡ nothing → ⊥) → next'.gift ≡ next.gift
    → ((head taken : List ℕ) → next.given x head body taken → next'.given y head body (taken ++ delta))
    → HopsAre next back x body to_next to_back → HopsAre next' back y body (to_next ++ delta) to_back
next_gives next next' back x y body to_next to_back delta c idle busy same on_ p =
    hops_swap back next' y body to_back (to_next ++ delta) (back_gives back next next' x y body to_back to_next delta c busy same on_
    (hops_swap next back x body to_next to_back p))

-- and where the history is closed by it, the whole message

-- in an open transaction no refusal is due
not_refusing : (refusing : Bool) (next back : WriterView) (x : Seen) → x.closed ≡ false → IsRefusing refusing next back x → refusing ≡ false
not_refusing true next back x c r = absurd (false≢true (sym c ∙ (r.0 refl).0))
not_refusing false next back x c r = refl

-- a message that the next hop's writer gives whole in an open transaction is delivered
pub next_whole : (refusing : Bool) (next next' back : WriterView) (x y : Seen) (body to_next to_back delta : List ℕ)
    → x.closed ≡ false → back.gift ≡ nothing → (next.gift ≡ nothing → ⊥) → next'.gift ≡ next.gift → IsRefusing refusing next back x
    → ((head taken : List ℕ) → next.given x head body taken → next'.whole y head body (taken ++ delta))
    → HopsAre next back x body to_next to_back → IsDelivered refusing next' back y body (to_next ++ delta) to_back
next_whole refusing next next' back x y body to_next to_back delta c idle busy same r on_ p = (
  not_refusing refusing next back x c r,
  elim p [
    | inl none ↦ absurd (busy none.next_is)
    | inr (inl on) ↦ inl (record {
      begun = same ∙ on.begun;
      head = on.head;
      whole_is = on_ on.head to_next on.given_is;
      aside_is = on.aside_is;
    })
    | inr (inr (inl on)) ↦ absurd (let e : nothing ≡ message = sym idle ∙ on.begun in cc)
    | inr (inr (inr over)) ↦ absurd (false≢true (sym c ∙ over.over))
  ],
)

-- an answer that the writer back gives whole in an open transaction is delivered
pub back_whole : (refusing : Bool) (next back back' : WriterView) (x y : Seen) (body to_next to_back delta : List ℕ)
    → x.closed ≡ false → (back.gift ≡ nothing → ⊥) → back'.gift ≡ back.gift → IsRefusing refusing next back x
    → ((head taken : List ℕ) → back.given x head body taken → back'.whole y head body (taken ++ delta))
    → HopsAre next back x body to_next to_back → IsDelivered refusing next back' y body to_next (to_back ++ delta)
back_whole refusing next back back' x y body to_next to_back delta c busy same r on_ p = (
  not_refusing refusing next back x c r,
  elim p [
    | inl none ↦ absurd (busy none.back_is)
    | inr (inl on) ↦ absurd (busy (on.alone c))
    | inr (inr (inl on)) ↦ inr (record {
      begun = same ∙ on.begun;
      head = on.head;
      whole_is = on_ on.head to_back on.given_is;
      aside_is = on.aside_is;
    })
    | inr (inr (inr over)) ↦ absurd (false≢true (sym c ∙ over.over))
  ],
)

-- the writer that isn't the user's has no refusal

-- a writer that has a message has no refusal
unrefused : (gift gift' : Gift) (status : ℕ) → gift' ≡ message → gift' ≡ refusal status → ⊥
unrefused gift gift' status m e = let d : message ≡ refusal status = sym m ∙ e in absurd cc

-- where the next hop's writer gets a message the writer that isn't the user's still has no refusal
pub other_of_next : (point : Point) (ng ng' bg : Gift) → ng' ≡ message → ((status : ℕ) → other_gift point ng bg ≡ refusal status → ⊥)
    → (status : ℕ) → other_gift point ng' bg ≡ refusal status → ⊥
other_of_next Reqmod ng ng' bg m none status = unrefused ng ng' status m
other_of_next Respmod ng ng' bg m none status = none status

-- where the writer back gets a message the writer that isn't the user's still has no refusal
pub other_of_back : (point : Point) (ng bg bg' : Gift) → bg' ≡ message → ((status : ℕ) → other_gift point ng bg ≡ refusal status → ⊥)
    → (status : ℕ) → other_gift point ng bg' ≡ refusal status → ⊥
other_of_back Reqmod ng bg bg' m none status = none status
other_of_back Respmod ng bg bg' m none status = unrefused bg bg' status m

-- at RESPMOD another gift of the next hop's writer leaves the other writer without a refusal
pub other_at_respmod : (point : Point) (ng ng' bg : Gift) → point ≡ Respmod → ((status : ℕ) → other_gift point ng bg ≡ refusal status → ⊥)
    → (status : ℕ) → other_gift point ng' bg ≡ refusal status → ⊥
other_at_respmod Reqmod ng ng' bg e none status = let d : Reqmod ≡ Respmod = e in absurd cc
other_at_respmod Respmod ng ng' bg e none status = none status

-- at REQMOD another gift of the writer back leaves the other writer without a refusal
pub other_at_reqmod : (point : Point) (ng bg bg' : Gift) → point ≡ Reqmod → ((status : ℕ) → other_gift point ng bg ≡ refusal status → ⊥)
    → (status : ℕ) → other_gift point ng bg' ≡ refusal status → ⊥
other_at_reqmod Reqmod ng bg bg' e none status = none status
other_at_reqmod Respmod ng bg bg' e none status = let d : Respmod ≡ Reqmod = e in absurd cc

-- where nothing is begun on either writer, the one that isn't the user's has no refusal
pub other_idle : (point : Point) (ng bg : Gift) → ng ≡ nothing → bg ≡ nothing → (status : ℕ) → other_gift point ng bg ≡ refusal status → ⊥
other_idle Reqmod ng bg n b status e = let d : nothing ≡ refusal status = sym n ∙ e in absurd cc
other_idle Respmod ng bg n b status e = let d : nothing ≡ refusal status = sym b ∙ e in absurd cc

-- a message is begun

-- from nothing, a wire took a prefix of it
abbrev pub BeginsWith : Seen → List ℕ → (own own' : WriterView) → Type 0
BeginsWith x head own own' = (body taken : List ℕ) → own.aside taken → x.original_delivered ≡ 0 → x.adapted_delivered ≡ 0
    → own'.given x head body taken

-- the other writer stays, whatever heads are made for it
pub record StaysAside (other other' : WriterView) : Type 0 where
  pub gift : other'.gift ≡ other.gift
  pub aside : (taken : List ℕ) → other.aside taken → other'.aside taken

-- a message that is begun to the next hop, where neither writer had one, goes to the next hop
pub next_begins : (next next' back back' : WriterView) (x : Seen) (head body to_next to_back : List ℕ)
    → x.closed ≡ false → next.gift ≡ nothing → back.gift ≡ nothing → next'.gift ≡ message → StaysAside back back'
    → BeginsWith x head next next'
    → HopsAre next back x body to_next to_back → HopsAre next' back' x body to_next to_back
next_begins next next' back back' x head body to_next to_back c n b m stays begin p =
    elim p [
      | inl none ↦ inr (inl (record {
        begun = m;
        alone = λ w. stays.gift ∙ b;
        head = head;
        given_is = begin body to_next none.next_aside_is none.none.0 none.none.1;
        aside_is = stays.aside to_back none.back_aside_is;
      }))
      | inr (inl on) ↦ absurd (let e : nothing ≡ message = sym n ∙ on.begun in cc)
      | inr (inr (inl on)) ↦ absurd (let e : nothing ≡ message = sym b ∙ on.begun in cc)
      | inr (inr (inr over)) ↦ absurd (false≢true (sym c ∙ over.over))
    ]

-- a message that is begun back to the source, where neither writer had one, goes back
pub back_begins : (next next' back back' : WriterView) (x : Seen) (head body to_next to_back : List ℕ)
    → x.closed ≡ false → next.gift ≡ nothing → back.gift ≡ nothing → back'.gift ≡ message → StaysAside next next'
    → BeginsWith x head back back'
    → HopsAre next back x body to_next to_back → HopsAre next' back' x body to_next to_back
back_begins next next' back back' x head body to_next to_back c n b m stays begin p =
    hops_swap back' next' x body to_back to_next (next_begins back back' next next' x head body to_back to_next c b n m stays begin
    (hops_swap next back x body to_next to_back p))

-- a refusal is put in the message's place

abbrev pub UntouchedGives : WriterView → Type 0
UntouchedGives own = (x : Seen) (head body taken : List ℕ) → own.given x head body taken
    → (taken ≡ []) × (x.original_delivered ≡ 0) × (x.adapted_delivered ≡ 0)

-- where the messages go stands as a writer to the next hop that gave no byte gets a refusal in a closed transaction
pub next_refuses : (next next' back : WriterView) (x : Seen) (body to_next to_back : List ℕ)
    → x.closed ≡ true → UntouchedGives next → ((taken : List ℕ) → next.aside taken → taken ≡ []) → next'.aside []
    → HopsAre next back x body to_next to_back → HopsAre next' back x body to_next to_back
next_refuses next next' back x body to_next to_back c given aside none p =
    elim p [
      | inl idle ↦ inr (inr (inr (record {
        over = c;
        none = idle.none;
        next_aside_is = empty to_next (aside to_next idle.next_aside_is);
        back_aside_is = idle.back_aside_is;
      })))
      | inr (inl on) ↦
          (let w = given x on.head body to_next on.given_is in
          inr (inr (inr (record { over = c; none = (w.1, w.2); next_aside_is = empty to_next w.0; back_aside_is = on.aside_is }))))
      | inr (inr (inl on)) ↦ inr (inr (inl (record {
        begun = on.begun;
        alone = λ w. absurd (false≢true (sym w ∙ c));
        head = on.head;
        given_is = on.given_is;
        aside_is = empty to_next (aside to_next on.aside_is);
      })))
      | inr (inr (inr over)) ↦ inr (inr (inr (record {
        over = c;
        none = over.none;
        next_aside_is = empty to_next (aside to_next over.next_aside_is);
        back_aside_is = over.back_aside_is;
      })))
    ]
  where
    empty : (taken : List ℕ) → taken ≡ [] → next'.aside taken
    empty taken e = subst next'.aside (sym e) none

-- where the messages go stands as a writer back that gave no byte gets a refusal in a closed transaction
pub back_refuses : (next back back' : WriterView) (x : Seen) (body to_next to_back : List ℕ)
    → x.closed ≡ true → UntouchedGives back → ((taken : List ℕ) → back.aside taken → taken ≡ []) → back'.aside []
    → HopsAre next back x body to_next to_back → HopsAre next back' x body to_next to_back
back_refuses next back back' x body to_next to_back c given aside none p =
    hops_swap back' next x body to_back to_next (next_refuses back back' next x body to_back to_next c given aside none
    (hops_swap next back x body to_next to_back p))

-- more of a refusal goes out

-- where the messages go stands as the next hop's wire takes more of what isn't a message
pub next_refuses_on : (next next' back : WriterView) (x : Seen) (body to_next to_back delta : List ℕ)
    → (next.gift ≡ message → ⊥) → next'.gift ≡ next.gift → ((taken : List ℕ) → next.aside taken → next'.aside (taken ++ delta))
    → HopsAre next back x body to_next to_back → HopsAre next' back x body (to_next ++ delta) to_back
next_refuses_on next next' back x body to_next to_back delta un same aside p =
    elim p [
      | inl idle ↦ inl (record {
        next_is = same ∙ idle.next_is;
        back_is = idle.back_is;
        none = idle.none;
        next_aside_is = aside to_next idle.next_aside_is;
        back_aside_is = idle.back_aside_is;
      })
      | inr (inl on) ↦ absurd (un on.begun)
      | inr (inr (inl on)) ↦ inr (inr (inl (record {
        begun = on.begun;
        alone = λ w. same ∙ on.alone w;
        head = on.head;
        given_is = on.given_is;
        aside_is = aside to_next on.aside_is;
      })))
      | inr (inr (inr over)) ↦ inr (inr (inr (record {
        over = over.over;
        none = over.none;
        next_aside_is = aside to_next over.next_aside_is;
        back_aside_is = over.back_aside_is;
      })))
    ]

-- where the messages go stands as the source's wire takes more of what isn't a message
pub back_refuses_on : (next back back' : WriterView) (x : Seen) (body to_next to_back delta : List ℕ)
    → (back.gift ≡ message → ⊥) → back'.gift ≡ back.gift → ((taken : List ℕ) → back.aside taken → back'.aside (taken ++ delta))
    → HopsAre next back x body to_next to_back → HopsAre next back' x body to_next (to_back ++ delta)
back_refuses_on next back back' x body to_next to_back delta un same aside p =
    hops_swap back' next x body (to_back ++ delta) to_next (next_refuses_on back back' next x body to_back to_next delta un same aside
    (hops_swap next back x body to_next to_back p))
