-- Each text is a layout or has a fault, just one of them, and never both.
use Rattle.encapsulated.proofs.OneAnswer.{parts_unique, layout_unique, one_fault, no_fault}
use Rattle.encapsulated.proofs.SomeAnswer.{some_answer}
use Rattle.encapsulated.proofs.laws.has_one_answer.Goals as goal

pub returns : goal.returns
returns c = λ method direction text. record {
  some = some_answer method direction text;
  one_layout = λ layout other is also. layout_unique layout other (parts_unique text _ _ is.parts also.parts);
  one_fault = one_fault method direction text;
  not_both = no_fault method direction text;
}
