-- After the framing that begins a piece comes a run of the body, the body's end, a fault with no body before it, or no byte.
use Rattle.std.proofs.Common.{◌≡◌, rules, arith, sym, ◌∙◌, ap, Some, None, inl, inr}
use Rattle.icap_chunks.specs.Machine.{run, end_at, faulted_at}
use Rattle.icap_chunks.proofs.Runs.{Framing, framing_part, framing_end_first, fault_read, fault_part, run_at, data_part, data_end_first}
use Rattle.icap_chunks.proofs.Runs.{end_of_behind, fault_of_behind, no_data_behind, no_end_here, no_fault_here, pauses_cases}
use Rattle.icap_chunks.proofs.reader.ChunkReader.read_piece.Goals as goal

-- what is there isn't nothing
some_is_none : {A : Type 0} {a : A} → Some a ≡ None → ⊥
some_is_none e = cc

pub returns-in-Faulted : goal.returns-in-Faulted
unfolding faulted_at
returns-in-Faulted c =
    let e = c.read_framing-framing.ensures in
    let f : Framing c.args.self.now c.args.piece.now c.read_framing-framing.result c.read_framing-framing.new.self =
    record { within = e.within; read = e.read; framing = e.framing; stops = e.stops } in
    record {
      within = search rules;
      read = search rules;
      part = search rules;
      ended = search rules;
      no_fault = search rules;
      end_first = search rules;
      stops = search rules;
      part_end = search rules;
      fault = ap faulted_at c.in-Faulted.is;
      fault_read = fault_read _ _ _ _ f c.in-Faulted.fault c.in-Faulted.is;
      fault_part = fault_part _ _ _ _ f c.in-Faulted.fault c.in-Faulted.is;
    }

pub returns-in-Data : goal.returns-in-Data
returns-in-Data c =
    let e = c.read_framing-framing.ensures in
    let f : Framing c.args.self.now c.args.piece.now c.read_framing-framing.result c.read_framing-framing.new.self =
    record { within = e.within; read = e.read; framing = e.framing; stops = e.stops } in
    let left = c.in-Data.more in
    let m = c.read_data-run.result in
    let count = c.read_data-run.ensures.count in
    let new = c.read_data-run.ensures.read in
    record {
      within = (omega arith, omega arith, omega arith);
      read = new ∙ sym (run_at _ _ _ _ f left c.in-Data.is m count m (omega arith));
      part = data_part _ _ _ _ f left c.in-Data.is m count;
      ended = sym (rw new (end_of_behind c.read_framing-framing.new.self.sum left m));
      no_fault = rw new (fault_of_behind c.read_framing-framing.new.self.sum left m);
      end_first = data_end_first _ _ _ _ f left c.in-Data.is m count;
      stops = λ more _. (omega arith, omega arith, rw new (no_data_behind c.read_framing-framing.new.self.sum left m (omega arith)));
      part_end = search rules;
      fault = search rules;
      fault_read = search rules;
      fault_part = search rules;
    }

pub returns-in-Ended : goal.returns-in-Ended
unfolding end_at faulted_at
returns-in-Ended c =
    let e = c.read_framing-framing.ensures in
    let f : Framing c.args.self.now c.args.piece.now c.read_framing-framing.result c.read_framing-framing.new.self =
    record { within = e.within; read = e.read; framing = e.framing; stops = e.stops } in
    record {
      within = search rules;
      read = e.read;
      part = framing_part _ _ _ _ f;
      ended = sym (ap end_at c.in-Ended.is);
      no_fault = ap faulted_at c.in-Ended.is;
      end_first = framing_end_first _ _ _ _ f;
      stops = λ _ none. absurd (some_is_none none);
      part_end = search rules;
      fault = search rules;
      fault_read = search rules;
      fault_part = search rules;
    }

pub returns-in_default : goal.returns-in_default
returns-in_default c =
    let e = c.read_framing-framing.ensures in
    let f : Framing c.args.self.now c.args.piece.now c.read_framing-framing.result c.read_framing-framing.new.self =
    record { within = e.within; read = e.read; framing = e.framing; stops = e.stops } in
    record {
      within = search rules;
      read = e.read;
      part = framing_part _ _ _ _ f;
      ended = sym (no_end_here _ c.in_default.not-Ended);
      no_fault = no_fault_here _ c.in_default.not-Faulted;
      end_first = framing_end_first _ _ _ _ f;
      stops = λ more _. absurd (elim (pauses_cases _ (e.stops more)) [
        | inl run ↦ c.in_default.not-Data run.0 run.1
        | inr (inl end) ↦ c.in_default.not-Ended end.0 end.1
        | inr (inr fault) ↦ c.in_default.not-Faulted fault.0 fault.1
      ]);
      part_end = search rules;
      fault = search rules;
      fault_read = search rules;
      fault_part = search rules;
    }
