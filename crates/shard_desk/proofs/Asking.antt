-- What a connector that began with no act was asked last, once it lent a connection or put one back.
use Rattle.std.specs.Prelude.{IfOk, IfErr}
use Rattle.std.proofs.Common.{◌≡◌, ℕ, inl, inr, [], Some, None, Result, Ok, Err, subst}
use Rattle.service_pool.specs.declared.connector.Act.TheVariants.{Opened}
use Rattle.service_pool.specs.declared.connector.LendFault.{LendFault}
use Rattle.service_pool.specs.declared.connector.LendFault.TheVariants.{Busy, Unreached, NoMemory, Paused}
use Rattle.service_pool.specs.declared.latest.Latest.{Latest}
use Rattle.service_pool.specs.declared.leased.Leased.{Leased}
use Rattle.service_pool.specs.declared.leased.LeasedConnection.{LeasedConnection}
use Rattle.service_pool.specs.Latest.{IsLatest}
use Rattle.service_pool.specs.Lending.{Lends, Reopens, PutsBack}
use Rattle.shard_desk.specs.Asked.{LendsBy, FailsBy, PutsBy, laid, closed, unkept}

-- a connection that was lent was looked at and brought into use last, or opened
pub lends_of : {U Q A : Type 0} → (now most thread : ℕ) → (old asked : Latest) → (lent : Result (LeasedConnection U Q A) LendFault)
    → IsLatest old [] → Lends now most thread (IsLatest old) (IsLatest asked) lent
    → IfOk lent (λ connection. LendsBy now most asked connection.lease)
lends_of now most thread old asked (Ok connection) start lends = record {
  idle = λ reused. record {
    since = (lends.0 reused).since;
    home = (lends.0 reused).home;
    young = (lends.0 reused).young;
    resumed = ((lends.0 reused).each [] start).last;
    looked = ((lends.0 reused).each [] start).before;
  };
  fresh = λ fresh. ((lends.1 fresh).each [] start).last;
}
lends_of now most thread old asked (Err fault) start lends = tt

-- where none was lent the connector failed last, for that very fault
pub fails_of : {U Q A : Type 0} → (now most thread : ℕ) → (old asked : Latest) → (lent : Result (LeasedConnection U Q A) LendFault)
    → IsLatest old [] → Lends now most thread (IsLatest old) (IsLatest asked) lent → IfErr lent (FailsBy asked)
fails_of now most thread old asked (Ok connection) start fails = tt
fails_of now most thread old asked (Err Busy) start fails = tt
fails_of now most thread old asked (Err Paused) start fails = (fails [] start).last
fails_of now most thread old asked (Err Unreached) start (inl idle) = inr (idle.1.since, idle.1.home, (idle.1.each [] start).last)
fails_of now most thread old asked (Err Unreached) start (inr fresh) = inl (fresh.each [] start).last
fails_of now most thread old asked (Err NoMemory) start (inl idle) = inr (idle.1.since, idle.1.home, (idle.1.each [] start).last)
fails_of now most thread old asked (Err NoMemory) start (inr fresh) = inl (fresh.each [] start).last

-- the seconds are those that are configured
pub lends_within : {Q A : Type 0} {now most seconds : ℕ} {asked : Latest} {lease : Leased Q A}
    → most ≡ seconds → LendsBy now most asked lease → LendsBy now seconds asked lease
lends_within {now = now} {asked = asked} {lease = lease} same lends = subst (λ seconds. LendsBy now seconds asked lease) same lends

-- what was put back under some limit of idle seconds was so under the configured one, if they are equal
pub puts_within : {most seconds : ℕ} {asked : Latest} → most ≡ seconds → PutsBy most asked → PutsBy seconds asked
puts_within {asked = asked} same puts = subst (λ seconds. PutsBy seconds asked) same puts

-- a connection was opened last, where there is one in place of another
pub reopens_by : {U : Type 0} → (old asked : Latest) → (result : Result U LendFault)
    → IsLatest old [] → Reopens (IsLatest old) (IsLatest asked) result → IfOk result (λ used. asked.last ≡ Some (Opened None))
reopens_by old asked (Ok used) start opens = (opens [] start).last
reopens_by old asked (Err fault) start opens = tt

-- a connection that was put back was checked, and laid down or closed last
pub puts_by : (most : ℕ) → (old asked : Latest) → IsLatest old [] → PutsBack most (IsLatest old) (IsLatest asked) → PutsBy most asked
puts_by most old asked start (inl (some, each)) = laid some _ (each [] start).last (each [] start).before
puts_by most old asked start (inr (inl (some, each))) = laid some _ (each [] start).last (each [] start).before
puts_by most old asked start (inr (inr (inl (some, each)))) = closed some (each [] start).last (each [] start).before
puts_by most old asked start (inr (inr (inr (none, each)))) = unkept none (each [] start).last
