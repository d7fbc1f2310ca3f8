-- A text with fields after it is the text, and then their texts.
use Rattle.std.proofs.Common.{◌≡◌, ℕ, List, [], ◌∷◌, ◌++◌, sym, ◌∙◌, ap, append-nil, codes}
use Rattle.std.proofs.lemmas.List.{append_assoc}
use Rattle.exchange_report.specs.Entry.{Field, field_text, fields_text, with_fields, fields_of, end_text}
use Rattle.exchange_report.specs.declared.entry.Entry.{Entry}

-- whichever fields these are
pub after : (text : List ℕ) (fields : List Field) → with_fields text fields ≡ text ++ fields_text fields
after text [] = sym (append-nil text)
after text (field ∷ fields) = after (text ++ field_text field) fields ∙ append_assoc text (field_text field) (fields_text fields)

-- and so it is with the line's end after them
pub ended : (text all : List ℕ) (e : Entry) → all ≡ with_fields text (fields_of e) → all ++ codes "\n" ≡ text ++ end_text e
unfolding end_text
ended text all e is =
    ap (λ t. t ++ codes "\n") (is ∙ after text (fields_of e)) ∙ append_assoc text (fields_text (fields_of e)) (codes "\n")
