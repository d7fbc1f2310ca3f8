-- A response is a record or has one fault.
use Rattle.std.proofs.Common.{◌≡◌, ◌⊎◌, ℕ, Result, Ok, Err, IfOk, IfErr, inl, inr, refl, ap}
use Rattle.icap_head.specs.Heads.{Response}
use Rattle.trace_core.specs.declared.history.Point.{Point}
use Rattle.options_book.specs.Options.{IsRecordOf, Options, RefusesOptions}
use Rattle.options_book.specs.Verified.{IsGood, judged_options}
use Rattle.options_book.specs.declared.judged.Verified.{Verified}
use Rattle.options_book.specs.declared.faults.OptFault.{OptFault}
use Rattle.options_book.specs.declared.faults.OptFault.TheVariants as Faults

-- a response that is a record has no fault
pub not_both : (fault : OptFault) (point : Point) (r : Response) (moment : ℕ) (options : Options) → IsRecordOf point moment r options
    → RefusesOptions fault point r → ⊥
not_both Faults.Status point r moment options says stands = stands says.success
not_both Faults.NoMethods point r moment options says stands = stands.1 says.method
not_both Faults.NoTag point r moment options says stands = stands.2 options.tag says.tag
not_both Faults.Number point r moment options says stands = stands.3 options.preview options.connections options.ttl says.numbers
not_both Faults.Encapsulated point r moment options says stands = stands.4 says.encapsulated
not_both Faults.NoMemory point r moment options says stands = stands

-- a response has one fault at most
pub one_fault : (f g : OptFault) (point : Point) (r : Response) → RefusesOptions f point r → RefusesOptions g point r → f ≡ g
one_fault Faults.Status Faults.Status point r a b = refl
one_fault Faults.Status Faults.NoMethods point r a b = absurd (a b.0)
one_fault Faults.Status Faults.NoTag point r a b = absurd (a b.0)
one_fault Faults.Status Faults.Number point r a b = absurd (a b.0)
one_fault Faults.Status Faults.Encapsulated point r a b = absurd (a b.0)
one_fault Faults.NoMethods Faults.Status point r a b = absurd (b a.0)
one_fault Faults.NoMethods Faults.NoMethods point r a b = refl
one_fault Faults.NoMethods Faults.NoTag point r a b = absurd (a.1 b.1)
one_fault Faults.NoMethods Faults.Number point r a b = absurd (a.1 b.1)
one_fault Faults.NoMethods Faults.Encapsulated point r a b = absurd (a.1 b.1)
one_fault Faults.NoTag Faults.Status point r a b = absurd (b a.0)
one_fault Faults.NoTag Faults.NoMethods point r a b = absurd (b.1 a.1)
one_fault Faults.NoTag Faults.NoTag point r a b = refl
one_fault Faults.NoTag Faults.Number point r a b = absurd (a.2 b.2.0 b.2.1)
one_fault Faults.NoTag Faults.Encapsulated point r a b = absurd (a.2 b.2.0 b.2.1)
one_fault Faults.Number Faults.Status point r a b = absurd (b a.0)
one_fault Faults.Number Faults.NoMethods point r a b = absurd (b.1 a.1)
one_fault Faults.Number Faults.NoTag point r a b = absurd (b.2 a.2.0 a.2.1)
one_fault Faults.Number Faults.Number point r a b = refl
one_fault Faults.Number Faults.Encapsulated point r a b = absurd (a.3 b.3.0 b.3.1 b.3.2 b.3.3)
one_fault Faults.Encapsulated Faults.Status point r a b = absurd (b a.0)
one_fault Faults.Encapsulated Faults.NoMethods point r a b = absurd (b.1 a.1)
one_fault Faults.Encapsulated Faults.NoTag point r a b = absurd (b.2 a.2.0 a.2.1)
one_fault Faults.Encapsulated Faults.Number point r a b = absurd (b.3 a.3.0 a.3.1 a.3.2 a.3.3)
one_fault Faults.Encapsulated Faults.Encapsulated point r a b = refl
one_fault Faults.NoMemory g point r a b = absurd a
one_fault f Faults.NoMemory point r a b = absurd b

-- where a fault stands, it is what is answered
pub only_fault : (point : Point) (r : Response) (moment : ℕ) (result : Result Options OptFault)
    → IfOk result (IsRecordOf point moment r)
    → IfErr result (λ fault. RefusesOptions fault point r ⊎ ((fault ≡ Faults.NoMemory)
    × ((options : Options) × IsRecordOf point moment r options)))
    → (fault : OptFault) → RefusesOptions fault point r → result ≡ Err fault
only_fault point r moment (Ok options) says only fault stands = absurd (not_both fault point r moment options says stands)
only_fault point r moment (Err found) says only fault stands = elim only [
  | inl other ↦ ap (λ (f : OptFault). Err f) (one_fault found fault point r other stands)
  | inr none ↦ absurd (not_both fault point r moment none.1.0 none.1.1 stands)
]

-- a judged response is a record, or has the fault that it was judged to have
pub has_reading : (point : Point) (r : Response) (moment : ℕ) (result : Result Verified OptFault)
    → IfOk result (λ judged. IsGood point r judged.tag.now judged.numbers)
    → IfErr result (λ fault. RefusesOptions fault point r)
    → ((options : Options) × IsRecordOf point moment r options) ⊎ ((fault : OptFault) × RefusesOptions fault point r)
has_reading point r moment (Ok judged) good none = inl (
  judged_options judged.tag.now judged.numbers r.fields moment,
  record {
    success = good.success;
    method = good.method;
    tag = good.tag_is;
    numbers = good.numbers_are;
    encapsulated = good.encapsulated;
    lists = refl;
    read_at = refl;
  },
)
has_reading point r moment (Err fault) good stands = inr (fault, stands)
