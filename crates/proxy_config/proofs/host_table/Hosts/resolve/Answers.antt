-- A literal is itself; a name is where its entry says, and nowhere where it has none.
use Rattle.std.proofs.Common.{◌≡◌, inl, inr, rules, Some, None, sym, ◌∙◌}
use Rattle.std.specs.Net.Socket.{v4_ip}
use Rattle.proxy_config.specs.Hosts.{found_host}
use Rattle.proxy_config.proofs.host_table.Hosts.resolve.Goals as goal

pub returns-in-Some-clause-found : goal.returns-in-Some-clause-found
returns-in-Some-clause-found c = inr (record {
  no_literal = c.in_default.ensures;
  entry = c.in-Some.entry;
  found = search rules;
  ip = search rules;
  of_port = search rules;
})

-- an option that holds a value isn't none
some_is_none : {A : Type 0} (x : A) → Some x ≡ None → ⊥
some_is_none x e = search (rules, e)

pub returns-in-None-clause-none : goal.returns-in-None-clause-none
returns-in-None-clause-none c = λ address at.
    let none : found_host c.args.self.now c.args.host.now ≡ None = search rules in
    elim at as (λ _. ⊥) [
      | inl literal ↦ c.in_default.ensures (v4_ip address) literal.ip
      | inr named ↦ some_is_none named.entry (sym named.found ∙ none)
    ]
