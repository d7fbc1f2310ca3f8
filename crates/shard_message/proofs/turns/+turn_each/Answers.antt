-- The turns are a round up to the first that ends it, and what was so since a beginning is so after them.
use Rattle.std.proofs.Common.{sym, ◌∙◌}
use Rattle.shard_message.proofs.RoundLemmas.{no_turn, last_turn, more_turns}
use Rattle.shard_message.proofs.turns.+turn_each.Goals as goal

pub returns-in-empty-clause-turns : goal.returns-in-empty-clause-turns
returns-in-empty-clause-turns g t c = no_turn _ _ _ c.args.sides.now c.in-empty.len_below

pub returns-in-empty-clause-lasts : goal.returns-in-empty-clause-lasts
returns-in-empty-clause-lasts g t c = λ s h. h

pub returns-then-ends : goal.returns-then-ends
returns-then-ends g t c =
    let turn = c.turn-answer in
    let after = c.after_turn-turned in
    record {
      turns = last_turn _ _ _ turn.new.self c.args.sides.now _ turn.result after.result c.in-len1-up.len_at_least
          (turn.ensures.answers, turn.ensures.keeps, turn.ensures.deadline) after.ensures.turned
          (sym c.ends.ensures ∙ c.if-ends.true);
      broken = λ e.
          let is_so = after.ensures.broken e in
          let on_broken = rw is_so at turn.ensures.answers in
          (turn.ensures.breaks is_so, on_broken.may);
      lasts = turn.ensures.lasts;
    }

pub returns-else-ends : goal.returns-else-ends
returns-else-ends g t c =
    let turn = c.turn-answer in
    let after = c.after_turn-turned in
    record {
      turns = more_turns _ _ _ turn.new.self _ c.args.sides.now _ turn.result after.result c.turn_each-rest.result c.joined.result
          c.in-len1-up.len_at_least (turn.ensures.answers, turn.ensures.keeps, turn.ensures.deadline) after.ensures.turned
          (sym c.ends.ensures ∙ c.if-ends.false) c.turn_each-rest.ensures.turns c.joined.ensures.adds;
      broken = λ e. c.turn_each-rest.ensures.broken (c.joined.ensures.broken e);
      lasts = λ s h. c.turn_each-rest.ensures.lasts s (turn.ensures.lasts s h);
    }
