-- What is said of a connection is said of the four words.
use Rattle.std.proofs.Common.{◌≡◌, List, ℕ, [], ◌∷◌, IfNone, Option, Some, None}
use Rattle.std.specs.declared.net.ipv4_addr.Ipv4Addr.{Ipv4Addr}
use Rattle.std.specs.Net.Grammar.{IsIpv4Text}
use Rattle.proxy_header.specs.Lines.{IsConnection, words}
use Rattle.proxy_header.proofs.WordCuts.{said_of}
use Rattle.proxy_header.proofs.words.source_in.Goals as goal

-- a text of four words is no connection where the first is no address
no_source : (text s t u v : List ℕ) (r : Option Ipv4Addr) → words text ≡ s ∷ t ∷ u ∷ v ∷ []
    → IfNone r ((ip : Ipv4Addr) → IsIpv4Text s ip → ⊥)
    → IfNone r ((ip : Ipv4Addr) → IsConnection text ip → ⊥)
no_source text s t u v None four none = λ ip h. none ip (said_of text s t u v ip four h).source_is
no_source text s t u v (Some ip) four none = none

pub returns-in-Some-ip_in-clause-none : goal.returns-in-Some-ip_in-clause-none
returns-in-Some-ip_in-clause-none c =
    no_source c.args.text.now _ _ _ _ _ c.in-Some.ensures.found c.ip_in-in-Some-ip_in.ensures.none

pub returns-in-None-clause-none : goal.returns-in-None-clause-none
returns-in-None-clause-none c = λ ip h.
    let s = said_of c.args.text.now _ _ _ _ ip c.in-Some.ensures.found h in c.in-None.ensures.none s.to s.target_is
