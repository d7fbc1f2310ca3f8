-- What a response is judged to say, before its lists are copied.
use Rattle.std.specs.Prelude.{◌≡◌, ℕ, true, List}
use Rattle.adapt_bytes.specs.Fields.{FieldList}
use Rattle.icap_head.specs.Heads.{Response}
use Rattle.trace_core.specs.declared.history.Point.{Point}
use Rattle.options_book.specs.Options.{Options, HasTag, AreNumbers, IsEncapsulated, serves, transfer_lists}
use Rattle.options_book.specs.declared.judged.Numbers.{Numbers}

-- a good response of a point's service, with this tag and these numbers
pub record IsGood (point : Point) (response : Response) (tag : List ℕ) (numbers : Numbers) : Type 0 where
  pub success : response.status ≡ 200
  pub method : serves point response.fields ≡ true
  pub tag_is : HasTag response.fields tag
  pub numbers_are : AreNumbers response.fields numbers.preview numbers.connections numbers.ttl
  pub encapsulated : IsEncapsulated response.fields

-- what its record holds
abbrev pub judged_options : List ℕ → Numbers → FieldList → ℕ → Options
judged_options tag numbers fields moment = record {
  tag = tag;
  preview = numbers.preview;
  connections = numbers.connections;
  ttl = numbers.ttl;
  lists = transfer_lists fields;
  read_at = moment;
}
