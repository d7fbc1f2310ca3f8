-- The piece of an ICAP head is served, whether more is awaited, it is refused, or it asks for options or offers a message.
use Rattle.std.proofs.Common.{◌++◌, List, ℕ, [], length, take, refl, sym, ap, ◌∙◌, subst, arith, append-nil}
use Rattle.std.proofs.lemmas.List.{take_all}
use Rattle.icap_services.specs.Texts.{shown, error_text, options_text}
use Rattle.icap_server.specs.declared.opening.Opening.{Opening}
use Rattle.icap_server.specs.declared.opening.Opening.TheVariants.{More}
use Rattle.icap_server.specs.declared.call.Verdict.TheVariants.{Describes, Offers}
use Rattle.icap_server.specs.declared.stage.Stage.{Stage}
use Rattle.icap_server.specs.Served.{At, Serves}
use Rattle.icap_server.specs.declared.side.ServerSide.{ServerSide}
use Rattle.icap_server.specs.Opening.{OpeningIs}
use Rattle.icap_server.proofs.Bodies.{served_at, whole_at}
use Rattle.icap_server.proofs.HeadCame.{Came, came_first, came_later, used_eq}
use Rattle.icap_server.proofs.HeadSteps.{head_more, head_refused, head_opens, head_describes, head_offers, head_offers_none}
use Rattle.icap_server.proofs.HeadStages.{HeadsCame, ended_served}
use Rattle.icap_server.proofs.Openings.{nothing_stands, more_is_short}
use Rattle.icap_server.proofs.side.ServerSide.judge_head.Goals as goal
use Rattle.icap_server.proofs.side.ServerSide.judge_head.Goals.{then-had-eq0+in_ok-opening}
use Rattle.icap_server.proofs.side.ServerSide.judge_head.Goals.{else-had-eq0+in_ok-extend_from_slice+in_ok-opening-2}
use Rattle.icap_server.proofs.side.ServerSide.judge_head.Goals.{then-call-eq0+in_ok-end_heads-in-Offers, else-call-eq0}

pub returns-in_ok-refuse-in-Refused-clause-served : goal.returns-in_ok-refuse-in-Refused-clause-served
returns-in_ok-refuse-in-Refused-clause-served c =
    let old = c.args.self.now in
    let refused = c.refuse.new.self in
    let new = c.if-had-eq0.self in
    let s = shown old.settings in
    let i = old.input.items in
    let piece = c.args.piece.now in
    let hs = c.as_slice-had.result.now in
    let came : Came old new piece c.if-had-eq0.opening = elim c.if-had-eq0.branch [
      | then-had-eq0+in_ok-opening w ↦ came_first old new hs piece c.if-had-eq0.opening w.in_ok-opening.opening c.as_slice-had.ensures.value
          w.if-had-eq0.true w.self-is w.opening-is w.in_ok-opening.ensures
      | else-had-eq0+in_ok-extend_from_slice+in_ok-opening-2 w ↦
          came_later old new hs piece w.deref.result.now w.extend_from_slice.new.self.items c.if-had-eq0.opening w.in_ok-opening-2.opening
          w.min.result w.saturating_sub-room.result
          c.as_slice-had.ensures.value w.if-had-eq0.false (ap (λ x. x.stage) w.self-is) (ap (λ x. shown x.settings) w.self-is)
          (ap (λ x. x.input.items) w.self-is) w.in_ok-extend_from_slice.ensures.items w.deref.ensures.value w.min.ensures
          w.saturating_sub-room.ensures w.opening-is w.in_ok-opening-2.ensures
    ] in
    let P : Opening → Type 0 = λ x. OpeningIs x (i ++ came.taken) in
    let status = c.in-Refused.status in
    let text = c.in_ok-refuse-in-Refused.ensures.text ∙ ap (λ x. c.args.out.now.items ++ error_text x status) came.settings in
    served_at c.args.out.now.items (error_text s status) c.requires.stage c.in_ok-refuse-in-Refused.ensures.stage refl refl
    (c.refuse.ensures.settings ∙ came.settings) (take_all (length piece) piece (omega arith)) text
    (head_refused s status i refused.input.items old.body.items refused.body.items piece came.taken came.rest came.cut
    (subst P c.in-Refused.is came.is))

pub returns-in_ok-put_options-in-Describes-clause-served : goal.returns-in_ok-put_options-in-Describes-clause-served
returns-in_ok-put_options-in-Describes-clause-served c =
    let old = c.args.self.now in
    let new = c.if-had-eq0.self in
    let s = shown old.settings in
    let i = old.input.items in
    let piece = c.args.piece.now in
    let hs = c.as_slice-had.result.now in
    let came : Came old new piece c.if-had-eq0.opening = elim c.if-had-eq0.branch [
      | then-had-eq0+in_ok-opening w ↦ came_first old new hs piece c.if-had-eq0.opening w.in_ok-opening.opening c.as_slice-had.ensures.value
          w.if-had-eq0.true w.self-is w.opening-is w.in_ok-opening.ensures
      | else-had-eq0+in_ok-extend_from_slice+in_ok-opening-2 w ↦
          came_later old new hs piece w.deref.result.now w.extend_from_slice.new.self.items c.if-had-eq0.opening w.in_ok-opening-2.opening
          w.min.result w.saturating_sub-room.result
          c.as_slice-had.ensures.value w.if-had-eq0.false (ap (λ x. x.stage) w.self-is) (ap (λ x. shown x.settings) w.self-is)
          (ap (λ x. x.input.items) w.self-is) w.in_ok-extend_from_slice.ensures.items w.deref.ensures.value w.min.ensures
          w.saturating_sub-room.ensures w.opening-is w.in_ok-opening-2.ensures
    ] in
    let P : Opening → Type 0 = λ x. OpeningIs x (i ++ came.taken) in
    let point = c.in-Describes.point in
    let judged = subst P c.in-Describes.is came.is in
    let used = used_eq i hs piece came.taken came.rest c.in-Describes.size c.saturating_sub.result c.min-in-Describes.result
    c.as_slice-had.ensures.value came.cut judged.1.inside c.saturating_sub.ensures c.min-in-Describes.ensures in
    let text = c.in_ok-put_options-in-Describes.ensures ∙ ap (λ x. c.args.out.now.items ++ options_text x point) came.settings in
    whole_at c.args.out.now.items (options_text s point) nothing_stands c.requires.stage (came.stage ∙ c.requires.stage)
    c.clear.ensures.items came.settings refl text
    (head_describes s point c.in-Describes.size c.min-in-Describes.result i old.body.items piece came.taken came.rest came.cut judged used)

pub returns-in_ok-extend_from_slice-in-More-clause-served : goal.returns-in_ok-extend_from_slice-in-More-clause-served
returns-in_ok-extend_from_slice-in-More-clause-served c =
    let old = c.args.self.now in
    let new = c.if-had-eq0.self in
    let s = shown old.settings in
    let i = old.input.items in
    let piece = c.args.piece.now in
    let hs = c.as_slice-had.result.now in
    let came : Came old new piece c.if-had-eq0.opening = elim c.if-had-eq0.branch [
      | then-had-eq0+in_ok-opening w ↦ came_first old new hs piece c.if-had-eq0.opening w.in_ok-opening.opening c.as_slice-had.ensures.value
          w.if-had-eq0.true w.self-is w.opening-is w.in_ok-opening.ensures
      | else-had-eq0+in_ok-extend_from_slice+in_ok-opening-2 w ↦
          came_later old new hs piece w.deref.result.now w.extend_from_slice.new.self.items c.if-had-eq0.opening w.in_ok-opening-2.opening
          w.min.result w.saturating_sub-room.result
          c.as_slice-had.ensures.value w.if-had-eq0.false (ap (λ x. x.stage) w.self-is) (ap (λ x. shown x.settings) w.self-is)
          (ap (λ x. x.input.items) w.self-is) w.in_ok-extend_from_slice.ensures.items w.deref.ensures.value w.min.ensures
          w.saturating_sub-room.ensures w.opening-is w.in_ok-opening-2.ensures
    ] in
    let P : Opening → Type 0 = λ x. OpeningIs x (i ++ came.taken) in
    let f = came.first (ap length (sym c.as_slice-had.ensures.value) ∙ c.if-had-eq0-2.true) in
    let S : List ℕ → Type 0 = λ t. OpeningIs More (i ++ t) in
    served_at c.args.out.now.items [] c.requires.stage (came.stage ∙ c.requires.stage)
    (c.in_ok-extend_from_slice-in-More.ensures.items ∙ ap (λ t. t ++ piece) f.0) refl came.settings
    (take_all (length piece) piece (omega arith)) (sym (append-nil c.args.out.now.items))
    (head_more s i old.body.items new.body.items piece (subst S f.1 (subst P c.in-More.is came.is)))

pub returns-else-had-eq0-2-clause-served : goal.returns-else-had-eq0-2-clause-served
returns-else-had-eq0-2-clause-served c =
    let old = c.args.self.now in
    let new = c.if-had-eq0.self in
    let s = shown old.settings in
    let i = old.input.items in
    let piece = c.args.piece.now in
    let hs = c.as_slice-had.result.now in
    let came : Came old new piece c.if-had-eq0.opening = elim c.if-had-eq0.branch [
      | then-had-eq0+in_ok-opening w ↦ came_first old new hs piece c.if-had-eq0.opening w.in_ok-opening.opening c.as_slice-had.ensures.value
          w.if-had-eq0.true w.self-is w.opening-is w.in_ok-opening.ensures
      | else-had-eq0+in_ok-extend_from_slice+in_ok-opening-2 w ↦
          came_later old new hs piece w.deref.result.now w.extend_from_slice.new.self.items c.if-had-eq0.opening w.in_ok-opening-2.opening
          w.min.result w.saturating_sub-room.result
          c.as_slice-had.ensures.value w.if-had-eq0.false (ap (λ x. x.stage) w.self-is) (ap (λ x. shown x.settings) w.self-is)
          (ap (λ x. x.input.items) w.self-is) w.in_ok-extend_from_slice.ensures.items w.deref.ensures.value w.min.ensures
          w.saturating_sub-room.ensures w.opening-is w.in_ok-opening-2.ensures
    ] in
    let P : Opening → Type 0 = λ x. OpeningIs x (i ++ came.taken) in
    let f = came.later (λ e. c.if-had-eq0-2.false (ap length c.as_slice-had.ensures.value ∙ e)) in
    let S : List ℕ → Type 0 = λ t. OpeningIs More (i ++ t) in
    let stands = subst P c.in-More.is came.is in
    let all = f.1 (more_is_short (i ++ came.taken) stands) in
    served_at c.args.out.now.items [] c.requires.stage (came.stage ∙ c.requires.stage) (f.0 ∙ ap (λ t. i ++ t) all) refl came.settings
    (take_all (length piece) piece (omega arith)) (sym (append-nil c.args.out.now.items))
    (head_more s i old.body.items new.body.items piece (subst S all stands))

pub returns-in_ok-put_options-in-Describes-clause-moves : goal.returns-in_ok-put_options-in-Describes-clause-moves
returns-in_ok-put_options-in-Describes-clause-moves c =
    let old = c.args.self.now in
    λ h.
    let new = c.if-had-eq0.self in
    let s = shown old.settings in
    let i = old.input.items in
    let piece = c.args.piece.now in
    let hs = c.as_slice-had.result.now in
    let came : Came old new piece c.if-had-eq0.opening = elim c.if-had-eq0.branch [
      | then-had-eq0+in_ok-opening w ↦ came_first old new hs piece c.if-had-eq0.opening w.in_ok-opening.opening c.as_slice-had.ensures.value
          w.if-had-eq0.true w.self-is w.opening-is w.in_ok-opening.ensures
      | else-had-eq0+in_ok-extend_from_slice+in_ok-opening-2 w ↦
          came_later old new hs piece w.deref.result.now w.extend_from_slice.new.self.items c.if-had-eq0.opening w.in_ok-opening-2.opening
          w.min.result w.saturating_sub-room.result
          c.as_slice-had.ensures.value w.if-had-eq0.false (ap (λ x. x.stage) w.self-is) (ap (λ x. shown x.settings) w.self-is)
          (ap (λ x. x.input.items) w.self-is) w.in_ok-extend_from_slice.ensures.items w.deref.ensures.value w.min.ensures
          w.saturating_sub-room.ensures w.opening-is w.in_ok-opening-2.ensures
    ] in
    let P : Opening → Type 0 = λ x. OpeningIs x (i ++ came.taken) in
    let judged = subst P c.in-Describes.is came.is in
    let used = used_eq i hs piece came.taken came.rest c.in-Describes.size c.saturating_sub.result c.min-in-Describes.result
    c.as_slice-had.ensures.value came.cut judged.1.inside c.saturating_sub.ensures c.min-in-Describes.ensures in
    let Q : Stage → Type 0 = λ x. At s x i old.body.items h.2.text h.2.due in
    (head_opens s (Describes c.in-Describes.point) c.in-Describes.size c.min-in-Describes.result i old.body.items piece came.taken came.rest
    came.cut judged used h.2.text h.2.due (subst Q c.requires.stage h.2.at)).1

pub returns-after-call-eq0-clause-moves : goal.returns-after-call-eq0-clause-moves
returns-after-call-eq0-clause-moves c =
    let old = c.args.self.now in
    λ h.
    let new = c.if-had-eq0.self in
    let s = shown old.settings in
    let i = old.input.items in
    let piece = c.args.piece.now in
    let hs = c.as_slice-had.result.now in
    let came : Came old new piece c.if-had-eq0.opening = elim c.if-had-eq0.branch [
      | then-had-eq0+in_ok-opening w ↦ came_first old new hs piece c.if-had-eq0.opening w.in_ok-opening.opening c.as_slice-had.ensures.value
          w.if-had-eq0.true w.self-is w.opening-is w.in_ok-opening.ensures
      | else-had-eq0+in_ok-extend_from_slice+in_ok-opening-2 w ↦
          came_later old new hs piece w.deref.result.now w.extend_from_slice.new.self.items c.if-had-eq0.opening w.in_ok-opening-2.opening
          w.min.result w.saturating_sub-room.result
          c.as_slice-had.ensures.value w.if-had-eq0.false (ap (λ x. x.stage) w.self-is) (ap (λ x. shown x.settings) w.self-is)
          (ap (λ x. x.input.items) w.self-is) w.in_ok-extend_from_slice.ensures.items w.deref.ensures.value w.min.ensures
          w.saturating_sub-room.ensures w.opening-is w.in_ok-opening-2.ensures
    ] in
    let P : Opening → Type 0 = λ x. OpeningIs x (i ++ came.taken) in
    let judged = subst P c.in-Offers.is came.is in
    let used = used_eq i hs piece came.taken came.rest c.in-Offers.size c.saturating_sub-in-Offers.result c.min-in-Offers.result
    c.as_slice-had.ensures.value came.cut judged.1.inside c.saturating_sub-in-Offers.ensures c.min-in-Offers.ensures in
    let Q : Stage → Type 0 = λ x. At s x i old.body.items h.2.text h.2.due in
    (head_opens s (Offers c.in-Offers.call) c.in-Offers.size c.min-in-Offers.result i old.body.items piece came.taken came.rest came.cut
    judged used h.2.text h.2.due (subst Q c.requires.stage h.2.at)).1

pub returns-after-call-eq0-clause-served : goal.returns-after-call-eq0-clause-served
returns-after-call-eq0-clause-served c =
    let old = c.args.self.now in
    let new = c.if-had-eq0.self in
    let s = shown old.settings in
    let i = old.input.items in
    let piece = c.args.piece.now in
    let hs = c.as_slice-had.result.now in
    let came : Came old new piece c.if-had-eq0.opening = elim c.if-had-eq0.branch [
      | then-had-eq0+in_ok-opening w ↦ came_first old new hs piece c.if-had-eq0.opening w.in_ok-opening.opening c.as_slice-had.ensures.value
          w.if-had-eq0.true w.self-is w.opening-is w.in_ok-opening.ensures
      | else-had-eq0+in_ok-extend_from_slice+in_ok-opening-2 w ↦
          came_later old new hs piece w.deref.result.now w.extend_from_slice.new.self.items c.if-had-eq0.opening w.in_ok-opening-2.opening
          w.min.result w.saturating_sub-room.result
          c.as_slice-had.ensures.value w.if-had-eq0.false (ap (λ x. x.stage) w.self-is) (ap (λ x. shown x.settings) w.self-is)
          (ap (λ x. x.input.items) w.self-is) w.in_ok-extend_from_slice.ensures.items w.deref.ensures.value w.min.ensures
          w.saturating_sub-room.ensures w.opening-is w.in_ok-opening-2.ensures
    ] in
    let P : Opening → Type 0 = λ x. OpeningIs x (i ++ came.taken) in
    let call = c.in-Offers.call in
    let out = c.args.out.now.items in
    let judged = subst P c.in-Offers.is came.is in
    let used = c.min-in-Offers.result in
    let used_is = used_eq i hs piece came.taken came.rest c.in-Offers.size c.saturating_sub-in-Offers.result used
    c.as_slice-had.ensures.value came.cut judged.1.inside c.saturating_sub-in-Offers.ensures c.min-in-Offers.ensures in
    let heads = c.clear-in-Offers.new.self.items in
    let G : ServerSide → List ℕ → Type 0 = λ x o. (stream before : List ℕ) → Serves s stream (before ++ out) old.stage i old.body.items
    → Serves (shown x.settings) (stream ++ take used piece) (before ++ o) x.stage x.input.items x.body.items in
    let R : ServerSide → Type 0 = λ x. G x c.if-call-eq0.out.items in
    elim c.if-call-eq0.branch [
      | then-call-eq0+in_ok-end_heads-in-Offers w ↦
          let T : List ℕ → Type 0 = λ o. G w.end_heads.new.self o in
          subst R (sym w.self-is) (subst T (sym (ap (λ x. x.items) w.out-is))
          (ended_served call heads out c.requires.stage came.settings w.end_heads.ensures.settings refl
          w.in_ok-end_heads-in-Offers.ensures.ends
          (λ text due at. let H : List ℕ → Type 0 = λ t. HeadsCame call (text ++ take used piece) due t in
          subst H (sym c.clear-in-Offers.ensures.items) (head_offers_none s call c.in-Offers.size used i old.body.items piece came.taken
          came.rest came.cut judged used_is w.if-call-eq0.true text due at))))
      | else-call-eq0 w ↦
          served_at out [] c.requires.stage (ap (λ x. x.stage) w.self-is)
          (ap (λ x. x.input.items) w.self-is ∙ c.clear-in-Offers.ensures.items) refl
          (ap (λ x. shown x.settings) w.self-is ∙ came.settings) refl (ap (λ x. x.items) w.out-is ∙ sym (append-nil out))
          (head_offers s call c.in-Offers.size used i old.body.items c.if-call-eq0.self.body.items piece came.taken came.rest came.cut
          judged used_is w.if-call-eq0.false)
    ]
