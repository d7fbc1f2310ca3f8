-- A configuration with the files that it names.
use Rattle.std.specs.Prelude.{◌≡◌, ◌⊎◌, ℕ, List, ⊤, Option, Some, None, codes, string_bytes}
use Rattle.proxy_config.specs.HostsFile.{IsBadAt, NamesHosts}
use Rattle.proxy_config.specs.declared.config.Config.{Config as Configuration}
use Rattle.proxy_commands.specs.Serve.{IsConfigured, IsUnconfigured}
use Rattle.proxy_commands.specs.declared.error.Error.TheVariants.{NoMemory as WithoutMemory}
use Rattle.proxy_commands.specs.declared.serve_error.ServeError.{ServeError}
use Rattle.proxy_commands.specs.declared.serve_error.ServeError.TheVariants.{Ended, Key, KeyLine}
use Rattle.proxy_commands.specs.declared.whole.WholeFault.{WholeFault}
use Rattle.proxy_commands.specs.declared.whole.WholeFault.TheVariants.{Refused, Hosts, HostsLine, Page, NoMemory}

-- a configuration has the names that a text says in place of those of its hosts file, and so many, where it names such a file
abbrev pub HasNames : {X : Type 0} → (file : Option X) → (old new : Configuration) → (count : ℕ) → Type 0
HasNames None old new count = (new ≡ old) × (count ≡ 0)
HasNames (Some path) old new count = (text : List ℕ) × NamesHosts text old new count

-- it has other pages, where it names a folder of them, and else is the same
abbrev pub HasPages : {X : Type 0} → (folder : Option X) → (old new : Configuration) → Type 0
HasPages None old new = new ≡ old
HasPages (Some path) old new = new ≡ record old { pages = new.pages }

-- it has the names of its hosts file, which are so many, and the pages of its refusals
pub record HasFiles (plain config : Configuration) (count : ℕ) : Type 0 where
  pub named : Configuration
  pub names : HasNames plain.hosts_file plain named count
  pub pages : HasPages plain.refusal_pages named config

-- the text is a configuration, but for the names of its hosts file, which are so many, and the pages of its refusals
pub record IsWhole (text : List ℕ) (config : Configuration) (count : ℕ) : Type 0 where
  pub plain : Configuration
  pub says : IsConfigured text plain
  pub files : HasFiles plain config count

-- why a configuration with this hosts file isn't whole
abbrev pub IsHostsFault : {X : Type 0} → WholeFault → (file : Option X) → Type 0
IsHostsFault Hosts (Some path) = ⊤
IsHostsFault (HostsLine number) (Some path) = (text : List ℕ) × IsBadAt text number
IsHostsFault NoMemory (Some path) = ⊤
IsHostsFault _ _ = ⊥

-- why one with this folder of pages isn't
abbrev pub IsPageFault : {X : Type 0} → WholeFault → (folder : Option X) → Type 0
IsPageFault Page (Some path) = ⊤
IsPageFault NoMemory (Some path) = ⊤
IsPageFault _ _ = ⊥

-- why a configuration isn't whole
abbrev pub Lacks : Configuration → WholeFault → Type 0
Lacks plain fault = IsHostsFault fault plain.hosts_file ⊎ IsPageFault fault plain.refusal_pages

-- a text that is a configuration names a file that can't be taken
abbrev pub LacksFile : List ℕ → WholeFault → Type 0
LacksFile text fault = (plain : Configuration) × IsConfigured text plain × Lacks plain fault

-- why a text and the files that it names are no configuration: the text's own fault first
abbrev pub IsWholeFault : List ℕ → WholeFault → Type 0
IsWholeFault text (Refused error) = IsUnconfigured text error
IsWholeFault text fault = LacksFile text fault

-- the error names this key, unless memory ran out
abbrev pub IsOfKey : List ℕ → ServeError → Type 0
IsOfKey name (Key key) = string_bytes key ≡ name
IsOfKey name (Ended WithoutMemory) = ⊤
IsOfKey name _ = ⊥

-- the error that a fault ends the program with: it names the key, unless memory ran out
abbrev pub EndsAs : WholeFault → ServeError → Type 0
EndsAs (Refused error) ends = ends ≡ error
EndsAs Hosts ends = IsOfKey (codes "hosts_file") ends
EndsAs (HostsLine number) (KeyLine key line) = (string_bytes key ≡ codes "hosts_file") × (line ≡ number)
EndsAs Page ends = IsOfKey (codes "refusal_pages") ends
EndsAs _ (Ended WithoutMemory) = ⊤
EndsAs _ _ = ⊥

-- a text and the files that it names end the program with this error
abbrev pub IsRefused : List ℕ → ServeError → Type 0
IsRefused text error = (fault : WholeFault) × IsWholeFault text fault × EndsAs fault error
