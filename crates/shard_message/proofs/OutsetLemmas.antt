-- How a message sets out.
use Rattle.std.proofs.Common.{◌≡◌, ℕ, List, Option, Some, None, IfSome, sym, subst}
use Rattle.std.specs.Prelude.{Box}
use Rattle.std.specs.declared.alloc.Global.{Global}
use Rattle.proxy_rules.specs.Offers.{text_of}
use Rattle.proxy_rules.specs.Since.{Snapshot, first_snapshot}
use Rattle.shard_message.specs.declared.planning.Planned.{Planned}

-- what is so since the transaction's beginning is so since this one, which is the same
pub since_outset : {A W C : Type 0} (so : Snapshot A W C → Type 0) (maybe : Option (Box Planned Global)) (planned : Box Planned Global)
    (request ahead beside : List ℕ) (source : A) (next handed : C) (line held given : Option W)
    → maybe ≡ Some planned → IfSome maybe (λ p. request ≡ text_of p.value.offer.side) → next ≡ handed → line ≡ held → given ≡ None
    → IfSome maybe (λ p. so (first_snapshot (text_of p.value.offer.side) ahead beside source handed held))
    → so (record { request = request; ahead = ahead; beside = beside; source = source; next = next; line = line; given = given })
since_outset so None planned request ahead beside source next handed line held given e r n l v since = absurd cc
since_outset {A} {W} {C} so (Some p) planned request ahead beside source next handed line held given e r n l v since =
    subst (λ (z : List ℕ). so (record {
      request = z;
      ahead = ahead;
      beside = beside;
      source = source;
      next = next;
      line = line;
      given = given;
    })) (sym r)
    (subst (λ (z : C). so (record {
      request = text_of p.value.offer.side;
      ahead = ahead;
      beside = beside;
      source = source;
      next = z;
      line = line;
      given = given;
    })) (sym n)
    (subst (λ (z : Option W). so (record {
      request = text_of p.value.offer.side;
      ahead = ahead;
      beside = beside;
      source = source;
      next = handed;
      line = z;
      given = given;
    })) (sym l)
    (subst (λ (z : Option W). so (record {
      request = text_of p.value.offer.side;
      ahead = ahead;
      beside = beside;
      source = source;
      next = handed;
      line = held;
      given = z;
    })) (sym v) since)))
