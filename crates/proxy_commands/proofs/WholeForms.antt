-- What a configuration with its files keeps, and why one isn't whole.
use Rattle.std.proofs.Common.{◌≡◌, ℕ, List, Option, Some, None, Result, Ok, Err, IfOk, IfErr, inl, inr, ap}
use Rattle.proxy_config.specs.declared.config.Config.{Config as Configuration}
use Rattle.proxy_commands.specs.Serve.{IsConfigured}
use Rattle.proxy_commands.specs.Whole.{HasFiles, HasNames, IsWhole, IsWholeFault, Lacks}
use Rattle.proxy_commands.specs.declared.whole.WholeFault.{WholeFault}
use Rattle.proxy_commands.specs.declared.whole.WholeFault.TheVariants.{Refused, Hosts, HostsLine, Page, NoMemory}

-- the names of a hosts file change no folder of pages
pub same_folder : {X : Type 0} (file : Option X) (old new : Configuration) (count : ℕ) → HasNames file old new count
    → new.refusal_pages ≡ old.refusal_pages
same_folder None old new count has = ap (λ (c : Configuration). c.refusal_pages) has.0
same_folder (Some path) old new count has = ap (λ (c : Configuration). c.refusal_pages) has.1.others

-- a file that is lacking is a fault of a text that is a configuration
pub lacks_file : (text : List ℕ) (plain : Configuration) (fault : WholeFault) → IsConfigured text plain → Lacks plain fault
    → IsWholeFault text fault
lacks_file text plain (Refused error) says (inl lacks) = absurd lacks
lacks_file text plain (Refused error) says (inr lacks) = absurd lacks
lacks_file text plain Hosts says lacks = (plain, says, lacks)
lacks_file text plain (HostsLine number) says lacks = (plain, says, lacks)
lacks_file text plain Page says lacks = (plain, says, lacks)
lacks_file text plain NoMemory says lacks = (plain, says, lacks)

-- a text's configuration with its files is whole
pub whole : (text : List ℕ) (plain : Configuration) (r : Result (Configuration × ℕ) WholeFault) → IsConfigured text plain
    → IfOk r (λ it. HasFiles plain it.0 it.1) → IfOk r (λ it. IsWhole text it.0 it.1)
whole text plain (Ok it) says has = record { plain = plain; says = says; files = has }
whole text plain (Err fault) says has = tt

-- one that lacks a file isn't
pub not_whole : (text : List ℕ) (plain : Configuration) (r : Result (Configuration × ℕ) WholeFault) → IsConfigured text plain
    → IfErr r (Lacks plain) → IfErr r (IsWholeFault text)
not_whole text plain (Ok it) says lacks = tt
not_whole text plain (Err fault) says lacks = lacks_file text plain fault says lacks
