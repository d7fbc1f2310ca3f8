-- What the laws say of lists.
use Rattle.std.specs.Prelude.{◌≡◌, ℕ, ◌^◌, ◌<◌, ◌≤◌, ◌⊎◌, List, IfSome, IfNone}
use Rattle.encapsulated.specs.declared.fault.EncFault.{EncFault}
use Rattle.adapt_bytes.specs.declared.method.Method.{Method}
use Rattle.encapsulated.specs.declared.message.Direction.{Direction}
use Rattle.encapsulated.specs.declared.offsets.Layout.{Layout}
use Rattle.encapsulated.specs.Layouts.{IsLayout}
use Rattle.encapsulated.specs.Faults.{RefusesList}

-- of all layouts and faults, just one fits the text
pub record HasOneAnswer (method : Method) (direction : Direction) (text : List ℕ) : Type 0 where
  pub some : ((layout : Layout) × IsLayout method direction text layout) ⊎ ((fault : EncFault) × RefusesList fault method direction text)
  pub one_layout : (layout other : Layout) → IsLayout method direction text layout → IsLayout method direction text other → layout ≡ other
  pub one_fault : (fault other : EncFault) → RefusesList fault method direction text → RefusesList other method direction text
      → fault ≡ other
  pub not_both : (layout : Layout) (fault : EncFault) → IsLayout method direction text layout → ¬ (RefusesList fault method direction text)

-- each offset is a number that a list can say
pub record Fits (layout : Layout) : Type 0 where
  pub req_hdr : IfSome layout.req_hdr (λ offset. offset < 2 ^ 64)
  pub res_hdr : IfSome layout.res_hdr (λ offset. offset < 2 ^ 64)
  pub body : layout.offset < 2 ^ 64

-- some text is this layout of such a message
abbrev pub CanBeRead : Method → Direction → Layout → Type 0
CanBeRead method direction layout = (text : List ℕ) × IsLayout method direction text layout

-- the first part begins at 0, and no part before the one that it follows
pub record StandsInARow (layout : Layout) : Type 0 where
  pub req_hdr : IfSome layout.req_hdr (λ offset. offset ≡ 0)
  pub res_hdr : IfSome layout.res_hdr (λ offset. offset ≤ layout.offset)
  pub res_first : IfNone layout.req_hdr (IfSome layout.res_hdr (λ offset. offset ≡ 0))
  pub body_first : IfNone layout.req_hdr (IfNone layout.res_hdr (layout.offset ≡ 0))
