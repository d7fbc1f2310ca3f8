-- Looking for the key of a name.
use Rattle.std.proofs.Common.{◌≡◌, ℕ, List, [], ◌∷◌, ◌++◌, Bool, true, false, if◌then◌else◌, Option, Some, None, bytes_eq}
use Rattle.std.proofs.Common.{option_map, refl, sym, ap, ◌∙◌}
use Rattle.std.specs.Option.{option_or}
use Rattle.proxy_config.specs.Keys.{NumberRule}
use Rattle.proxy_config.specs.Numbers.{IsKeyOf, rule_named, rule_of}
use Rattle.proxy_config.specs.declared.number_key.NumberKey.{NumberKey}

-- a rule that is here, or else later
or_later : (is : Bool) (rule : NumberRule) (here later : Option NumberRule)
    → (if is then Some rule else option_or here later) ≡ option_or (if is then Some rule else here) later
or_later true rule here later = refl
or_later false rule here later = refl

-- the rule of a name among some, or else among those after them, is that among all
named_in_both : (rules more : List NumberRule) (name : List ℕ)
    → rule_named (rules ++ more) name ≡ option_or (rule_named rules name) (rule_named more name)
named_in_both [] more name = refl
named_in_both (rule ∷ rules) more name =
    ap (λ (found : Option NumberRule). if bytes_eq rule.name name then Some rule else found) (named_in_both rules more name)
    ∙ or_later (bytes_eq rule.name name) rule (rule_named rules name) (rule_named more name)

-- the rule of a key, or else of another one
rule_or : (one other : Option NumberKey)
    → option_map rule_of (option_or one other) ≡ option_or (option_map rule_of one) (option_map rule_of other)
rule_or None other = refl
rule_or (Some key) other = refl

-- the key of a name of some rules, or else of those after them, is that of all
pub key_or : (rules more : List NumberRule) (name : List ℕ) (one other found : Option NumberKey) → found ≡ option_or one other
    → IsKeyOf rules name one → IsKeyOf more name other
    → IsKeyOf (rules ++ more) name found
key_or rules more name one other found is first second = record {
  is = ap (λ (it : Option NumberKey). option_map rule_of it) is ∙ rule_or one other
      ∙ ap (λ (it : Option NumberRule). option_or it (option_map rule_of other)) first.is
      ∙ ap (λ (it : Option NumberRule). option_or (rule_named rules name) it) second.is ∙ sym (named_in_both rules more name);
}
