-- What a plan and its side say of each other.
use Rattle.std.proofs.Common.{◌≡◌, ℕ, Bool, true, false, List, Option, Some, None, IfSome, refl, ap, sym, subst, ◌∙◌, ◌&&◌, if◌then◌else◌}
use Rattle.trace_core.specs.declared.history.Plan.{Plan}
use Rattle.trace_core.specs.declared.history.Point.{Point}
use Rattle.trace_core.specs.declared.history.Kind.{Kind}
use Rattle.trace_core.specs.declared.history.Kind.TheVariants.{Whole, Preview}
use Rattle.trace_core.specs.History.{is_plain, is_preview, is_null}
use Rattle.options_book.specs.Options.{Options}
use Rattle.options_book.specs.Transfer.{treat_of}
use Rattle.options_book.specs.declared.transfer.Treat.{Treat}
use Rattle.options_book.specs.declared.transfer.Treat.TheVariants as treats
use Rattle.plan_rules.specs.Offer.{kind_of}
use Rattle.plan_rules.specs.declared.limits.Limits.{Limits}
use Rattle.chunk_writer.specs.Writer.{Writer}
use Rattle.icap_client.specs.Turns.{Service}
use Rattle.proxy_rules.specs.Plans.{IsPlanned}
use Rattle.proxy_rules.specs.Offers.{Binds, IsUnused, previews_nothing, text_of}
use Rattle.proxy_rules.specs.Beginnings.{service_end_of}

-- a kind that is Whole where a test passes is no preview there
by_length : (b : Bool) (n : ℕ) → (is_preview (if b then Whole else Preview n) && b) ≡ false
by_length true n = refl
by_length false n = refl

-- no plan previews a body that is known to be empty
kinds : (treat : Treat) (preview : Option ℕ) (limit : ℕ) (len : Option ℕ)
    → (is_preview (kind_of treat preview limit len) && is_null len) ≡ false
kinds treats.Ignore preview limit len = refl
kinds treats.Complete preview limit len = refl
kinds treats.Preview None limit len = refl
kinds treats.Preview (Some size) limit len = by_length (is_null len) _

-- the plan of a message, with a service or without, previews no body that is known to be empty
pub previews_some : (options : Option Options) (limits : Limits) (point : Point) (path : List ℕ) (len : Option ℕ) (plan : Plan)
    → IsPlanned options limits point path len plan → previews_nothing plan ≡ false
previews_some None limits point path len plan p = ap (λ (k : Kind). is_preview k && is_null plan.len) p.kind
previews_some (Some options) limits point path len plan p =
    ap (λ (k : Kind). is_preview k && is_null plan.len) p.plan_is.kind_is
    ∙ (ap (λ (l : Option ℕ). is_preview (kind_of (treat_of options.lists p.extension) options.preview limits.preview_limit len) && is_null
    l) p.plan_is.len_is
    ∙ kinds (treat_of options.lists p.extension) options.preview limits.preview_limit len)

-- a message of which no service says anything isn't offered
pub plain_without : (limits : Limits) (point : Point) (path : List ℕ) (len : Option ℕ) (plan : Plan)
    → IsPlanned None limits point path len plan → is_plain plan.kind ≡ true
plain_without limits point path len plan p = ap is_plain p.kind

-- the text is what the side's writer begins with
own_text : (request : List ℕ) (s : Service) → IsUnused request s → IsUnused s.writer.head s
own_text request s u = subst (λ (t : List ℕ). IsUnused t s) (sym (ap (λ (w : Writer). w.head) u.writer)) u

-- an offer's side is unused, over any connection
pub unused_on : {W : Type 0} (plan : Plan) (side : Option Service) (wire : Option W) → Binds plan side
    → IfSome (service_end_of side wire) (λ line. IsUnused (text_of side) line.side)
unused_on plan None wire b = tt
unused_on plan (Some s) wire b = own_text _ s b.unused
