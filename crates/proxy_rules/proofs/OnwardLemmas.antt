-- Heads that go on, and heads that a service may not send.
use Rattle.std.proofs.Common.{◌≡◌, ℕ, Bool, true, List, length, refl, ◌∙◌, inl, inr, ◌⊎◌}
use Rattle.std.proofs.lemmas.Bool.{false≢true}
use Rattle.std.specs.Prelude.{Result, Ok, Err, IfOk, IfErr}
use Rattle.trace_core.specs.declared.history.Cause.{Cause}
use Rattle.trace_core.specs.declared.history.Cause.TheVariants as causes
use Rattle.http_side.specs.declared.fault.HttpFault.{HttpFault}
use Rattle.http_side.specs.declared.fault.HttpFault.TheVariants.{More, Bad, TooLong, TooMany, BothLengths, Lengths, Coding, Target, Connect}
use Rattle.http_side.specs.declared.fault.HttpFault.TheVariants.{NoMemory}
use Rattle.http_side.specs.declared.forward.Forward.{Forward}
use Rattle.http_side.specs.declared.forward.Message.{Message}
use Rattle.http_side.specs.declared.forward.Message.TheVariants.{Request, Response}
use Rattle.http_side.specs.declared.forward.OriginUse.{OriginUse}
use Rattle.http_side.specs.declared.forward.OriginUse.TheVariants.{Once, Fresh, Kept}
use Rattle.http_side.specs.declared.forward.OriginWay.{OriginWay}
use Rattle.http_side.specs.declared.body.Framing.{Framing}
use Rattle.http_side.specs.declared.forward.BodyKind.{BodyKind}
use Rattle.http_side.specs.Forward.{forwarded, is_response, next_framing, closes}
use Rattle.http_side.specs.Heads.{RequestParts, ResponseParts}
use Rattle.http_side.specs.Requests.{IsRead}
use Rattle.http_side.specs.Responses.{IsResponseRead}
use Rattle.proxy_rules.specs.Onward.{IsForwarded, IsUnfit, suits, suits_use, IsRequest, IsResponse, IsAdaptedRequest, IsAdaptedResponse}
use Rattle.proxy_rules.specs.Onward.{cause_of, may_answer}
use Rattle.proxy_rules.specs.declared.onward.Headed.{Headed}

-- a response may go out whatever the use of an origin's connection
pub answers_suit : (origin : OriginUse) (m : Message) (framing : Framing) → is_response m ≡ true → suits_use origin m framing ≡ true
answers_suit Once m framing e = refl
answers_suit Fresh m framing e = refl
answers_suit Kept (Request r) framing e = absurd (false≢true e)
answers_suit Kept (Response r) framing e = refl

-- a head of a message is one of each kind that the message is of
pub goes_on : (r : Result Headed Cause) (f : Forward) (is_it : Message → Type 0) → is_it f.message → suits f ≡ true
    → IfOk r (λ headed. headed.head.items ≡ forwarded f) → IfOk r (λ headed. headed.framing ≡ next_framing f)
    → IfOk r (λ headed. headed.closes ≡ closes f)
    → IfOk r (IsForwarded f.user.now f.carries_on f.origin f.part is_it)
goes_on (Ok headed) f is_it m fit head framing ends = record {
  forward = f;
  user_is = refl;
  carries_on_is = refl;
  origin_is = refl;
  suits_is = fit;
  part_is = refl;
  message_is = m;
  head_is = head;
  framing_is = framing;
  closes_is = ends;
}
goes_on (Err cause) f is_it m fit head framing ends = tt

-- and of each wider kind
pub widened : (r : Result Headed Cause) (user : RequestParts) (carries_on : Bool) (origin : OriginWay) (part other : BodyKind)
    (is_it is_wide : Message → Type 0)
    → ((m : Message) → is_it m → is_wide m) → part ≡ other
    → IfOk r (IsForwarded user carries_on origin part is_it) → IfOk r (IsForwarded user carries_on origin other is_wide)
widened (Ok headed) user carries_on origin part other is_it is_wide wide e g = record {
  forward = g.forward;
  user_is = g.user_is;
  carries_on_is = g.carries_on_is;
  origin_is = g.origin_is;
  suits_is = g.suits_is;
  part_is = g.part_is ∙ e;
  message_is = wide g.forward.message g.message_is;
  head_is = g.head_is;
  framing_is = g.framing_is;
  closes_is = g.closes_is;
}
widened (Err cause) user carries_on origin part other is_it is_wide wide e g = tt

-- a message that may not go out is none of a wider kind either
pub unfit_in : (user : RequestParts) (origin : OriginWay) (part other : BodyKind) (is_it is_wide : Message → Type 0)
    → ((m : Message) → is_it m → is_wide m) → part ≡ other → IsUnfit user origin part is_it → IsUnfit user origin other is_wide
unfit_in user origin part other is_it is_wide wide e g = record {
  forward = g.forward;
  user_is = g.user_is;
  origin_is = g.origin_is;
  part_is = g.part_is ∙ e;
  message_is = wide g.forward.message g.message_is;
  unfit = g.unfit;
}

-- why no head is made of a request that a service made, by why none is made of the request
pub unmade_of : (r : Result Headed Cause) (refused : Type 0) (user : RequestParts) (origin : OriginWay) (part other : BodyKind)
    (is_it is_wide : Message → Type 0) → ((m : Message) → is_it m → is_wide m) → part ≡ other
    → IfErr r (λ cause. (cause ≡ causes.Memory) ⊎ ((cause ≡ causes.NextHop) × IsUnfit user origin part is_it))
    → IfErr r (λ cause. (cause ≡ causes.Memory) ⊎ ((cause ≡ causes.Service) × refused)
    ⊎ ((cause ≡ causes.NextHop) × IsUnfit user origin other is_wide))
unmade_of (Ok headed) refused user origin part other is_it is_wide wide e why = tt
unmade_of (Err cause) refused user origin part other is_it is_wide wide e (inl memory) = inl memory
unmade_of (Err cause) refused user origin part other is_it is_wide wide e (inr unfit) =
    inr (inr (unfit.0, unfit_in user origin part other is_it is_wide wide e unfit.1))

-- a request whose head is the text to its last byte is an adapted one of that text
pub adapted_request_is : (text : List ℕ) (parts : RequestParts) (len : ℕ) → IsRead true text parts len → len ≡ length text
    → (m : Message) → IsRequest parts m → IsAdaptedRequest text m
adapted_request_is text parts len read e m is_it = (parts, rw e at read, is_it)

-- a response that may answer, and whose head is the text to its last byte, is an adapted one of that text
pub adapted_response_is : (to_head has_body : Bool) (text : List ℕ) (parts : ResponseParts) (len : ℕ)
    → IsResponseRead to_head text parts len → len ≡ length text
    → may_answer has_body parts ≡ true → (m : Message) → IsResponse parts m → IsAdaptedResponse to_head has_body text m
adapted_response_is to_head has_body text parts len read e may m is_it = (parts, record { read = rw e at read; may = may }, is_it)

-- a head that is refused is the service's fault, unless memory ran out
pub blamed : (fault : HttpFault) (refused : Type 0) → ((fault ≡ NoMemory → ⊥) → refused)
    → (cause_of fault ≡ causes.Memory) ⊎ ((cause_of fault ≡ causes.Service) × refused)
blamed NoMemory refused f = inl refl
blamed More refused f = inr (refl, f (λ e. cc))
blamed Bad refused f = inr (refl, f (λ e. cc))
blamed TooLong refused f = inr (refl, f (λ e. cc))
blamed TooMany refused f = inr (refl, f (λ e. cc))
blamed BothLengths refused f = inr (refl, f (λ e. cc))
blamed Lengths refused f = inr (refl, f (λ e. cc))
blamed Coding refused f = inr (refl, f (λ e. cc))
blamed Target refused f = inr (refl, f (λ e. cc))
blamed Connect refused f = inr (refl, f (λ e. cc))

-- the same of a request, which may also be unfit for its connection
pub blamed_request : (fault : HttpFault) (refused unfit : Type 0) → ((fault ≡ NoMemory → ⊥) → refused)
    → (cause_of fault ≡ causes.Memory) ⊎ ((cause_of fault ≡ causes.Service) × refused) ⊎ ((cause_of fault ≡ causes.NextHop) × unfit)
blamed_request fault refused unfit f = elim (blamed fault refused f) [ inl memory ↦ inl memory | inr service ↦ inr (inl service) ]
