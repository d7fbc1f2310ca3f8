-- What is lent of what was found.
use Rattle.std.specs.Prelude.{IfOk}
use Rattle.std.proofs.Common.{◌≡◌, ◌↔◌, ℕ, List, Result, Ok, Err, inl, inr, refl, sym, ap, ◌∙◌}
use Rattle.trace_core.specs.declared.history.Point.{Point}
use Rattle.service_pool.specs.declared.connector.Act.{Act}
use Rattle.service_pool.specs.declared.connector.LendFault.{LendFault}
use Rattle.service_pool.specs.declared.connector.LendFault.TheVariants.{Busy, Unreached, NoMemory, Paused}
use Rattle.service_pool.specs.declared.leased.LeasedConnection.{LeasedConnection}
use Rattle.service_pool.specs.declared.leased.Lendable.{Lendable}
use Rattle.service_pool.specs.declared.leased.Lendable.TheVariants as lendable
use Rattle.service_pool.specs.Lending.{fault_in, is_reused, is_own, Tells, FindsYoung, FindsOwn, HasLease, TakesLive, Lends, after_lend}

-- An idle connection that was found is lent once it is brought into use, and one is opened where the right to that was found.
pub lends_found : {I U Q A : Type 0} (since home : I → ℕ) (point : Point) (now most thread : ℕ) (before between after : List Act → Type 0)
    → (what : Lendable I Q A) (result : Result (LeasedConnection U Q A) LendFault)
    → TakesLive before between what → Tells point what → FindsYoung since now most what → FindsOwn home thread what
    → ((result ≡ Err Busy) ↔ (what ≡ lendable.Busy)) → (result ≡ Err Paused → ⊥)
    → IfOk result (λ connection. HasLease what connection.lease)
    → ((p : List Act) → between p → after (after_lend since home what (fault_in result) p)) → Lends now most thread before after result
lends_found since home point now most thread before between after (lendable.Idle idle lease) (Ok connection) takes tells young own busy free
    has asked = (
      λ reused. record {
        dead = takes.dead;
        since = since idle;
        home = home idle;
        young = young;
        at_home = ap is_own has ∙ own;
        each = λ p old. asked _ (takes.each p old);
      },
      λ fresh. absurd (let clash = sym fresh ∙ ap is_reused has ∙ tells.1 in cc),
    )
lends_found since home point now most thread before between after (lendable.Idle idle lease) (Err Busy) takes tells young own busy free has
    asked =
    absurd (let clash = busy.0 refl in cc)
lends_found since home point now most thread before between after what (Err Paused) takes tells young own busy free has asked =
    absurd (free refl)
lends_found since home point now most thread before between after (lendable.Idle idle lease) (Err Unreached) takes tells young own busy free
    has asked =
    inl (
      is_own lease,
      record {
        dead = takes.dead;
        since = since idle;
        home = home idle;
        young = young;
        at_home = own;
        each = λ p old. asked _ (takes.each p old);
      },
    )
lends_found since home point now most thread before between after (lendable.Idle idle lease) (Err NoMemory) takes tells young own busy free
    has asked =
    inl (
      is_own lease,
      record {
        dead = takes.dead;
        since = since idle;
        home = home idle;
        young = young;
        at_home = own;
        each = λ p old. asked _ (takes.each p old);
      },
    )
lends_found since home point now most thread before between after (lendable.Fresh lease) (Ok connection) takes tells young own busy free has
    asked = (
      λ reused. absurd (let clash = sym reused ∙ ap is_reused has ∙ tells.1 in cc),
      λ fresh. record { dead = takes.dead; each = λ p old. asked _ (takes.each p old) },
    )
lends_found since home point now most thread before between after (lendable.Fresh lease) (Err Busy) takes tells young own busy free
    has asked =
    absurd (let clash = busy.0 refl in cc)
lends_found since home point now most thread before between after (lendable.Fresh lease) (Err Unreached) takes tells young own busy free has
    asked =
    inr (record { dead = takes.dead; each = λ p old. asked _ (takes.each p old) })
lends_found since home point now most thread before between after (lendable.Fresh lease) (Err NoMemory) takes tells young own busy free has
    asked =
    inr (record { dead = takes.dead; each = λ p old. asked _ (takes.each p old) })
lends_found since home point now most thread before between after lendable.Busy (Ok connection) takes tells young own busy free has asked =
    absurd has
lends_found since home point now most thread before between after lendable.Busy (Err Busy) takes tells young own busy free has asked =
    (takes.dead, λ p old. asked _ (takes.each p old))
lends_found since home point now most thread before between after lendable.Busy (Err Unreached) takes tells young own busy free has asked =
    absurd (let clash = busy.1 refl in cc)
lends_found since home point now most thread before between after lendable.Busy (Err NoMemory) takes tells young own busy free has asked =
    absurd (let clash = busy.1 refl in cc)
