-- What a fault that names a key says of that key, and of a text that is refused for it.
use Rattle.std.proofs.Common.{◌≡◌, ℕ, List, Result, Ok, Err, Some, IfErr, IsErrAnd, sym, subst}
use Rattle.toml.specs.Data.{Members}
use Rattle.toml.specs.Parse.{parse_document}
use Rattle.proxy_config.specs.declared.config.Config.{Config}
use Rattle.proxy_config.specs.declared.fault.ConfigFault.{ConfigFault}
use Rattle.proxy_config.specs.declared.fault.ConfigFault.TheVariants.{Text, Key, NoMemory}
use Rattle.proxy_config.specs.Fault.{Names, IsFaultAt}
use Rattle.proxy_config.specs.Config.{IsFirstFault, Refuses}

-- a fault that names the first key at fault of a text's document refuses the text
pub refuses_by_document : (text : List ℕ) (document : Members) → parse_document text ≡ Some document
    → (r : Result Config ConfigFault) → IfErr r (Names (IsFirstFault document)) → IfErr r (Refuses text)
refuses_by_document text document parsed (Ok config) first = tt
refuses_by_document text document parsed (Err Text) first = absurd first
refuses_by_document text document parsed (Err (Key key)) first = (document, parsed, first)
refuses_by_document text document parsed (Err NoMemory) first = tt

-- the fault of a key names it
pub names_it : (key : List ℕ) (Says : List ℕ → Type 0) → Says key → (fault : ConfigFault) → IsFaultAt key fault → Names Says fault
names_it key Says says Text named = absurd named
names_it key Says says (Key found) named = subst Says (sym named) says
names_it key Says says NoMemory named = tt

-- what is said of each key that one thing is said of
pub names_so : (Says Also : List ℕ → Type 0) → ((key : List ℕ) → Says key → Also key) → (fault : ConfigFault) → Names Says fault
    → Names Also fault
names_so Says Also so Text named = absurd named
names_so Says Also so (Key found) named = so _ named
names_so Says Also so NoMemory named = tt

-- a fault that is passed on names what it names
pub passed_on : {T : Type 0} (r : Result T ConfigFault) (fault : ConfigFault) (Says : List ℕ → Type 0)
    → IsErrAnd r (λ passed. passed ≡ fault) → Names Says fault → IfErr r (Names Says)
passed_on (Ok value) fault Says is named = tt
passed_on (Err passed) fault Says is named = let P : ConfigFault → Type 0 = λ f. Names Says f in subst P (sym is) named
