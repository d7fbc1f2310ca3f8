-- A connection, read by read.
use Rattle.std.proofs.Common.{◌≡◌, ℕ, ◌++◌, List, [], take, refl, sym, ap, ◌∙◌, subst, append-nil, Bool, true, false, inl, inr, ◌⊎◌, Option}
use Rattle.std.proofs.Common.{Some, None}
use Rattle.std.specs.Io.KnownBytes.{Consumes, IsAtEnd, Keeps}
use Rattle.std.proofs.KnownBytes.{Consumes-nil, Consumes-trans, Appends-nil, Appends-trans}
use Rattle.icap_services.specs.Texts.{Shown, shown}
use Rattle.icap_server.specs.declared.side.ServerSide.{ServerSide}
use Rattle.icap_server.specs.Answers.{Answers, AnswersUntilMemoryRanOut}
use Rattle.icap_server.specs.Connection.{AreAll, AnswersAll, AnswersFront, AnswersRead, WritesOn, ServesOn}
use Rattle.icap_server.specs.Served.{HasServed, Serves, is_closed, has_run_out}
use Rattle.icap_server.proofs.Feeding.{closed_more, open_has_memory}
use Rattle.icap_server.proofs.Steps.{answers_of, answers_until}

-- what is left, where it is known
rest_of : Option (List ℕ) → List ℕ
rest_of None = []
rest_of (Some bytes) = bytes

-- what has come and what is left are all of the reader's bytes, where those are known
all_of : (reader left : Option (List ℕ)) (come : List ℕ) → Consumes reader left come → AreAll reader (come ++ rest_of left)
unfolding rest_of
all_of None left come h = tt
all_of (Some bytes) None come h = absurd h
all_of (Some bytes) (Some more) come h = h

-- of a reader at its end nothing is left
nothing_left : (left : Option (List ℕ)) → IsAtEnd left → rest_of left ≡ []
unfolding rest_of
nothing_left None h = refl
nothing_left (Some bytes) h = h

-- a connection begins with an open side that has served nothing, with nothing come and nothing added
pub begins : (s : Shown) (reader old : Option (List ℕ)) (side : ServerSide) → HasServed [] [] side → is_closed side.stage ≡ false
    → shown side.settings ≡ s → ServesOn s reader reader old old side
begins s reader old side served opened same = record {
  come = [];
  text = [];
  cut = Consumes-nil reader;
  written = Appends-nil old;
  served = served;
  open_side = opened;
  settings = same;
}

-- a piece came, and the side is still open
pub goes_on : (s : Shown) (reader left left' old new new' : Option (List ℕ)) (side side' : ServerSide) (piece : List ℕ)
    → ServesOn s reader left old new side → Consumes left left' piece
    → WritesOn side piece side' new new' → is_closed side'.stage ≡ false → shown side'.settings ≡ shown side.settings
    → ServesOn s reader left' old new' side'
goes_on s reader left left' old new new' side side' piece h cut writes opened same = record {
  come = h.come ++ piece;
  text = h.text ++ writes.text;
  cut = Consumes-trans reader left left' h.come piece h.cut cut;
  written = Appends-trans old new new' h.text writes.text h.written writes.written;
  served = writes.served h.come h.text h.served;
  open_side = opened;
  settings = same ∙ h.settings;
}

-- a read that failed gave nothing
pub stays : (s : Shown) (reader left left' old new : Option (List ℕ)) (side : ServerSide) → ServesOn s reader left old new side
    → Consumes left left' [] → ServesOn s reader left' old new side
stays s reader left left' old new side h cut = record {
  come = h.come;
  text = h.text;
  cut = subst (Consumes reader left') (append-nil h.come) (Consumes-trans reader left left' h.come [] h.cut cut);
  written = h.written;
  served = h.served;
  open_side = h.open_side;
  settings = h.settings;
}

-- what was added on a connection that goes on are the answers to what has come
answers_so_far : (s : Shown) (reader left old new : Option (List ℕ)) (side : ServerSide) (h : ServesOn s reader left old new side)
    → Answers s h.come h.text
answers_so_far s reader left old new side h =
    let P : Shown → Type 0 = λ x. Answers x h.come h.text in
    subst P h.settings (answers_of (shown side.settings) h.come h.text side.stage side.input.items side.body.items h.served
    (open_has_memory side.stage h.open_side))

-- the answers so far are those to what was read
pub read : (s : Shown) (reader left old new : Option (List ℕ)) (side : ServerSide) → ServesOn s reader left old new side
    → AnswersRead s reader left old new
read s reader left old new side h = record {
  read = h.come;
  text = h.text;
  cut = h.cut;
  answers = answers_so_far s reader left old new side h;
  written = h.written;
}

-- a reader that kept what was left has given nothing
kept_cut : (left left' : Option (List ℕ)) → Keeps left left' → Consumes left left' []
kept_cut None left' same = tt
kept_cut (Some bytes) None same = absurd same
kept_cut (Some bytes) (Some more) same = sym same

-- so they are after a read that failed
pub read_kept : (s : Shown) (reader left left' old new : Option (List ℕ)) (side : ServerSide) → ServesOn s reader left old new side
    → Keeps left left' → AnswersRead s reader left' old new
read_kept s reader left left' old new side h same =
    read s reader left' old new side (stays s reader left left' old new side h (kept_cut left left' same))

-- and where nothing was written since, they are those to a prefix
pub front_kept : (s : Shown) (reader left old new new' : Option (List ℕ)) (side : ServerSide) → ServesOn s reader left old new side
    → new' ≡ new → AnswersFront s reader old new'
front_kept s reader left old new new' side h same =
    let P : Option (List ℕ) → Type 0 = λ x. AnswersRead s reader left old x in
    (left, subst P (sym same) (read s reader left old new side h))

-- nothing more comes
ends : (s : Shown) (reader left old new : Option (List ℕ)) (side : ServerSide) → ServesOn s reader left old new side → IsAtEnd left
    → AnswersAll s reader old new
ends s reader left old new side h end = record {
  bytes = h.come;
  text = h.text;
  all = subst (AreAll reader) (ap (λ t. h.come ++ t) (nothing_left left end) ∙ append-nil h.come) (all_of reader left h.come h.cut);
  answers = inl (answers_so_far s reader left old new side h);
  written = h.written;
}

-- nothing more came
pub ends_at : (s : Shown) (reader left left' old new : Option (List ℕ)) (side : ServerSide) (n : ℕ) (buffer : List ℕ)
    → ServesOn s reader left old new side → n ≡ 0 → Consumes left left' (take n buffer) → IsAtEnd left' → AnswersAll s reader old new
ends_at s reader left left' old new side n buffer h none cut end =
    let P : ℕ → Type 0 = λ k. Consumes left left' (take k buffer) in
    ends s reader left' old new side (stays s reader left left' old new side h (subst P none cut)) end

-- the side is closed: nothing that follows changes its answers
pub closes : (s : Shown) (reader left left' old new new' : Option (List ℕ)) (side side' : ServerSide) (piece : List ℕ)
    → ServesOn s reader left old new side → Consumes left left' piece
    → WritesOn side piece side' new new' → is_closed side'.stage ≡ true → shown side'.settings ≡ shown side.settings
    → AnswersAll s reader old new'
closes s reader left left' old new new' side side' piece h cut writes closed same =
    let come = h.come ++ piece in
    let text = h.text ++ writes.text in
    let x = shown side'.settings in
    let more = closed_more x come text side'.stage side'.input.items side'.body.items (rest_of left') closed
    (writes.served h.come h.text h.served) in
    let P : Shown → Type 0 = λ y. (Answers y (come ++ rest_of left') text) ⊎ (AnswersUntilMemoryRanOut y (come ++ rest_of left') text) in
    record {
      bytes = come ++ rest_of left';
      text = text;
      all = all_of reader left' come (Consumes-trans reader left left' h.come piece h.cut cut);
      answers = subst P (same ∙ h.settings) (either x (come ++ rest_of left') text side' more (has_run_out side'.stage) refl);
      written = Appends-trans old new new' h.text writes.text h.written writes.written;
    }
  where
    either : (x : Shown) (stream text : List ℕ) (side : ServerSide) → Serves x stream text side.stage side.input.items side.body.items
        → (ran : Bool) → has_run_out side.stage ≡ ran → Answers x stream text ⊎ AnswersUntilMemoryRanOut x stream text
    either x stream text side h false e = inl (answers_of x stream text side.stage side.input.items side.body.items h e)
    either x stream text side h true e = inr (answers_until x stream text side.stage side.input.items side.body.items h e)
