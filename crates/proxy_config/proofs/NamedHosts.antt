-- Hosts are added for the words of a line, and for the lines of a text.
use Rattle.std.proofs.Common.{◌≡◌, ℕ, List, [], ◌∷◌, ◌++◌, length, map, Bool, true, nat_lt, All, IsUtf8, string_bytes, inl, inr, sym, ap}
use Rattle.std.proofs.Common.{◌∙◌, subst, arith, rules}
use Rattle.std.proofs.lemmas.Bool.{lt-ltb}
use Rattle.std.proofs.lemmas.List.{append_assoc, length-append, map-append}
use Rattle.std.proofs.lemmas.List.Elements.{All-push}
use Rattle.std.proofs.lemmas.Str.{IsUtf8-string_bytes}
use Rattle.std.specs.Net.Grammar.{IsIpv4Text}
use Rattle.std.specs.Net.Socket.{v4_ip}
use Rattle.std.specs.declared.net.ipv4_addr.Ipv4Addr.{Ipv4Addr}
use Rattle.std.specs.declared.net.socket_addr.SocketAddrV4.{SocketAddrV4}
use Rattle.proxy_config.specs.declared.host.Host.{Host}
use Rattle.proxy_config.specs.HostsFile.{IsIpv6Word, Says}

-- the names of hosts
abbrev pub names_of : List Host → List (List ℕ)
names_of hosts = map (λ host. string_bytes host.name) hosts

-- of these words the rest is still to be read; for each before it a host was added
pub record Adding (address : SocketAddrV4) (words : List (List ℕ)) (old : List Host) (rest : List (List ℕ)) (hosts : List Host)
    (is_named : Bool) : Type 0 where
  pub added : List Host
  pub now : hosts ≡ old ++ added
  pub are : words ≡ names_of added ++ rest
  pub at : All (λ (host : Host). host.address ≡ address) added
  pub some : is_named ≡ nat_lt 0 (length added)

-- a word that is no UTF-8 is no host's name
pub no_name : (front : List (List ℕ)) (word : List ℕ) (rest : List (List ℕ)) (hosts : List Host) → (IsUtf8 word → ⊥)
    → names_of hosts ≡ front ++ word ∷ rest → ⊥
no_name [] word rest [] bad is = search (rules, is)
no_name [] word rest (host ∷ hosts) bad is =
    let first : string_bytes host.name ≡ word = search (rules, is) in
    bad (subst IsUtf8 first (IsUtf8-string_bytes host.name))
no_name (name ∷ front) word rest [] bad is = search (rules, is)
no_name (name ∷ front) word rest (host ∷ hosts) bad is =
    let more : names_of hosts ≡ front ++ word ∷ rest = search (rules, is) in
    no_name front word rest hosts bad more

-- one more host was added for the next word
pub adds_one : (address : SocketAddrV4) (words : List (List ℕ)) (old : List Host) (word : List ℕ) (before rest : List (List ℕ))
    (hosts new : List Host) (is_named : Bool)
    → Adding address words old before hosts is_named → before ≡ word ∷ rest → (host : Host) → string_bytes host.name ≡ word
    → host.address ≡ address
    → new ≡ hosts ++ host ∷ [] → Adding address words old rest new true
adds_one address words old word before rest hosts new is_named adding split host name at pushed = record {
  added = adding.added ++ host ∷ [];
  now = pushed ∙ ap (λ (hs : List Host). hs ++ host ∷ []) adding.now ∙ append_assoc old adding.added (host ∷ []);
  are = adding.are ∙ ap (λ ws. names_of adding.added ++ ws) (split ∙ ap (λ w. w ∷ rest) (sym name))
      ∙ sym (ap (λ ns. ns ++ rest) (map-append (λ (h : Host). string_bytes h.name) adding.added (host ∷ []))
      ∙ append_assoc (names_of adding.added) (string_bytes host.name ∷ []) rest);
  at = All-push (λ (h : Host). h.address ≡ address) adding.added host adding.at at;
  some = sym (lt-ltb 0 (length (adding.added ++ host ∷ [])) (omega (arith, length-append adding.added (host ∷ []))));
}

-- a line whose first word is no address, of whichever kind, says nothing
pub no_entry : (words : List (List ℕ)) (first : List ℕ) (names : List (List ℕ)) → words ≡ first ∷ names → (IsIpv6Word first → ⊥)
    → ((ip : Ipv4Addr) → IsIpv4Text first ip → ⊥) → (hosts : List Host) → Says words hosts → ⊥
no_entry words first names are other none hosts says =
    let at : Says (first ∷ names) hosts = subst (λ ws. Says ws hosts) are says in
    elim at as (λ _. ⊥) [
      | inl skipped ↦ other skipped.0
      | inr entry ↦ none (v4_ip entry.1.address) entry.1.ip
    ]
