-- What a take under the lock finds.
use Rattle.std.specs.Prelude.{◌≡◌, Bool, true, false, if◌then◌else◌}
use Rattle.std.specs.Borrow.{Bor}
use Rattle.std.specs.Fn.{Shared, FnReturnsAt}
use Rattle.service_pool.specs.declared.lease.Taken.{Taken}
use Rattle.service_pool.specs.declared.lease.Taken.TheVariants as taken
use Rattle.service_pool.specs.declared.state.Found.{Found}
use Rattle.service_pool.specs.declared.state.Found.TheVariants.{Idle, Fresh, Busy}
use Rattle.service_pool.specs.declared.state.Choice.{Choice}
use Rattle.service_pool.specs.declared.state.Choice.TheVariants as choice

-- what it finds, without the lease
abbrev pub found : {C L : Type 0} → Taken C L → Found C
found (taken.Idle c lease) = Idle c
found (taken.Fresh lease) = Fresh
found taken.Busy = Busy

-- the lease tells whether the connection was idle
abbrev pub Tells : {C L : Type 0} → Taken C L → Type 0
Tells (taken.Idle c lease) = lease.reused ≡ true
Tells (taken.Fresh lease) = lease.reused ≡ false
Tells taken.Busy = Unit {0}

-- what a take that prefers what a test picks finds: the lease tells whether the test picked it
abbrev pub chosen : {C L : Type 0} → Taken C L → Choice C
chosen (taken.Idle c lease) = if lease.picked then choice.Picked c else choice.Unpicked c
chosen (taken.Fresh lease) = choice.Fresh
chosen taken.Busy = choice.Busy

-- the lease tells whether the test picks the connection
abbrev pub TellsTest : {F C L : Type 0} → Shared F (Bor C × Unit {0}) Bool → F → Taken C L → Type 0
TellsTest test f (taken.Idle c lease) = FnReturnsAt test f c lease.picked
TellsTest test f (taken.Fresh lease) = lease.picked ≡ false
TellsTest test f taken.Busy = Unit {0}
