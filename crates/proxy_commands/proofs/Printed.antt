-- The script that is printed of a history is read as its plan, its events and the questions after them.
use Rattle.std.proofs.Common.{◌≡◌, ◌≢◌, ℕ, ◌+◌, ◌-◌, ◌<◌, ◌^◌, Bool, true, false, cond, nat_lt, List, [], ◌∷◌, ◌++◌, All}
use Rattle.std.proofs.Common.{Option, Some, None, IfSome, map, reverse, codes, refl, sym, ap, ◌∙◌, subst, inl, inr, ne_eqb, arith, lit≤}
use Rattle.std.specs.Bool.{⊤}
use Rattle.std.proofs.lemmas.List.{append-nil, append_assoc, map-append, reverse-append}
use Rattle.std.proofs.lemmas.List.Elements.{All-head, All-tail}
use Rattle.std.proofs.lemmas.Bool.Decides.{nat_tests}
use Rattle.adapt_bytes.specs.Numeral.{numeral}
use Rattle.adapt_bytes.proofs.Written.{Writes-numeral}
use Rattle.trace_core.specs.declared.history.Plan.{Plan}
use Rattle.trace_core.specs.declared.history.Kind.{Kind}
use Rattle.trace_core.specs.declared.history.Kind.TheVariants.{Plain, Whole, Preview}
use Rattle.trace_core.specs.declared.history.Event.{Event}
use Rattle.trace_core.specs.declared.history.Event.TheVariants.{In, End, Svc, Stop, Heard, Continue, NoMod}
use Rattle.trace_core.specs.declared.history.Event.TheVariants.{Mod, Ad, AdEnd, Usr, Done, Fail, Retry}
use Rattle.trace_core.specs.declared.history.Cause.TheVariants.{Source, Service, NextHop, Memory, Deadline, Stopping}
use Rattle.trace_core.specs.declared.history.Seen.{Seen}
use Rattle.trace_core.specs.declared.tape.Tape.{Tape}
use Rattle.trace_core.specs.declared.tape.Tape.TheVariants.{Original, Adapted}
use Rattle.trace_core.specs.History.{seen}
use Rattle.trace_core.specs.Legal.{Allows, IsLegal, preview_size}
use Rattle.trace_core.specs.Held.{held_original, held_adapted}
use Rattle.trace_core.proofs.Planned.{is_plan}
use Rattle.trace_core.proofs.Sound.{sound}
use Rattle.trace_core.proofs.Tabled.{within}
use Rattle.exchange_report.specs.Lines.{HasNoEnd}
use Rattle.exchange_report.specs.Entry.{moment_text}
use Rattle.exchange_report.specs.Live.{id_text, point_word, request_words, caption_text}
use Rattle.exchange_report.specs.Script.{printed_number, kind_text, allow_text, length_text, plan_text, event_text}
use Rattle.exchange_report.specs.Script.{events_lines, history_text, ends_of, needs_lines, needs_text}
use Rattle.exchange_report.specs.declared.caption.Caption.{Caption}
use Rattle.exchange_report.proofs.OneLine.{const, joined}
use Rattle.exchange_report.proofs.ScriptLines.{plan_line, event_line, need_line, id, moment, point, request}
use Rattle.proxy_commands.specs.declared.script.Line.{Line}
use Rattle.proxy_commands.specs.declared.script.Line.TheVariants.{Step, Need}
use Rattle.proxy_commands.specs.Lines.{lines_of, onto_first_line, said}
use Rattle.proxy_commands.specs.Words.{line_words, line_number, line_text, IsWordsThenNumber, SaysLine}
use Rattle.proxy_commands.specs.Script.{SaysKind, SaysLength, SaysPlan, SaysLines, SaysAll}
use Rattle.proxy_commands.specs.Printed.{said_plan, printed_lines, last_comment, sent_script}
use Rattle.proxy_commands.proofs.Comments.{kept, line_says}

-- Lines.

-- a text that ends no line, and what follows its end
line_then : (line rest : List ℕ) → HasNoEnd line → lines_of (line ++ 10 ∷ rest) ≡ line ∷ lines_of rest
line_then [] rest h = refl
line_then (b ∷ line) rest h =
    ap (λ t. cond t ([] ∷ lines_of (line ++ 10 ∷ rest)) (onto_first_line b (lines_of (line ++ 10 ∷ rest))))
    (ne_eqb b 10 (All-head (λ c. c ≢ 10) b line h))
    ∙ ap (onto_first_line b) (line_then line rest (All-tail (λ c. c ≢ 10) b line h))

-- lines as they are printed
abbrev lines_text : List Line → List ℕ
lines_text [] = []
lines_text (line ∷ lines) = line_text line ++ 10 ∷ lines_text lines

-- lines after others are printed after them
lines_joined : (a b : List Line) → lines_text (a ++ b) ≡ lines_text a ++ lines_text b
lines_joined [] b = refl
lines_joined (line ∷ a) b =
    ap (λ t. line_text line ++ 10 ∷ t) (lines_joined a b) ∙ sym (append_assoc (line_text line) (10 ∷ lines_text a) (lines_text b))

-- a printed line doesn't end before its end
no_end : (line : Line) → HasNoEnd (line_text line)
no_end (Step event) = event_line event
no_end (Need tape place) = need_line tape place

-- its number is one of 64 bits
abbrev Fits : Line → Type 0
Fits line = IfSome (line_number line) (λ n. n < 2 ^ 64)

abbrev AllFit : List Line → Type 0
AllFit [] = ⊤
AllFit (line ∷ lines) = Fits line × AllFit lines

-- where the numbers of some lines fit, and of others, those of both together do
both_fit : (a b : List Line) → AllFit a → AllFit b → AllFit (a ++ b)
both_fit [] b h i = i
both_fit (line ∷ a) b h i = (h.0, both_fit a b h.1 i)

-- words and a number, as they are printed, are read again
pub printed : (words : List ℕ) (number : Option ℕ)
    → IfSome number (λ n. n < 2 ^ 64) → IsWordsThenNumber (words ++ printed_number number) words number
printed words None fits = append-nil words
printed words (Some n) fits = (numeral 10 n, refl, record { writes = Writes-numeral 10 n (lit≤ tt) (lit≤ tt); fits = fits })

-- a line as it is printed says this line
says : (line : Line) → Fits line → SaysLine (line_text line) line
says line fits = printed (line_words line) (line_number line) fits

-- printed lines, with the comment after them, are these lines
lines_say : (lines : List Line) → AllFit lines → SaysLines (said (lines_of (lines_text lines ++ last_comment))) lines
lines_say [] fit = tt
lines_say (line ∷ lines) fit =
    let here = says line fit.0 in
    let rest = lines_text lines ++ last_comment in
    let first_is = append_assoc (line_text line) (10 ∷ lines_text lines) last_comment in
    let cut = ap lines_of first_is ∙ line_then (line_text line) rest (no_end line) in
    let first = ap said cut ∙ kept (line_text line) (lines_of rest) (line_says (line_text line) line here) in
    subst (λ (texts : List (List ℕ)). SaysLines texts (line ∷ lines)) (sym first) (here, lines_say lines fit.1)

-- The numbers of a history.

-- the number of an event that is allowed, if it has one, is one of 64 bits
event_fits : (x : Seen) (event : Event) → Allows x event → Fits (Step event)
event_fits x (In n) a = omega (arith, a.1.1)
event_fits x End a = tt
event_fits x (Svc n) a = omega (arith, a.1.1)
event_fits x Stop a = tt
event_fits x Heard a = tt
event_fits x Continue a = tt
event_fits x NoMod a = tt
event_fits x (Mod payload) a = tt
event_fits x (Ad n) a = omega (arith, a.2.1)
event_fits x AdEnd a = tt
event_fits x (Usr n) (inl a) = omega (arith, a.1.1)
event_fits x (Usr n) (inr a) = omega (arith, a.1.1)
event_fits x Done a = tt
event_fits x (Fail Source) a = lit≤ tt
event_fits x (Fail Service) a = lit≤ tt
event_fits x (Fail NextHop) a = lit≤ tt
event_fits x (Fail Memory) a = lit≤ tt
event_fits x (Fail Deadline) a = lit≤ tt
event_fits x (Fail Stopping) a = lit≤ tt
event_fits x Retry a = tt

-- so are the numbers of all events of a legal history
steps_fit : (plan : Plan) (events : List Event) → IsLegal plan events → AllFit (map Step (reverse events))
steps_fit plan [] l = tt
steps_fit plan (event ∷ before) l =
    let order = ap (map Step) (reverse-append (event ∷ []) before) ∙ map-append Step (reverse before) (event ∷ []) in
    subst AllFit (sym order)
    (both_fit (map Step (reverse before)) (Step event ∷ []) (steps_fit plan before l.1) (event_fits (seen plan before) event l.0.1, tt))

-- the places that are asked for lie below the end of the range
ends_fit : (tape : Tape) (range : ℕ × ℕ) → range.1 < 2 ^ 62 → AllFit (map (Need tape) (ends_of range))
ends_fit tape range low = by_some (nat_lt range.0 range.1) refl
  where
    by_two : (b : Bool) → range.0 < range.1 → AllFit (map (Need tape) (cond b (range.0 ∷ (range.1 - 1) ∷ []) (range.0 ∷ [])))
    by_two true l = (omega (arith, low, l), (omega (arith, low), tt))
    by_two false l = (omega (arith, low, l), tt)

    by_some : (b : Bool) → nat_lt range.0 range.1 ≡ b
        → AllFit (map (Need tape) (cond b (cond (nat_lt (range.0 + 1) range.1) (range.0 ∷ (range.1 - 1) ∷ []) (range.0 ∷ [])) []))
    by_some true e = by_two (nat_lt (range.0 + 1) range.1) (grind (arith, nat_tests, e))
    by_some false e = tt

-- and those of all lines that are printed of it
lines_fit : (plan : Plan) (events : List Event) → IsLegal plan events → AllFit (printed_lines plan events)
lines_fit plan events l =
    let w = within (seen plan events) (sound plan events l) in
    both_fit (map Step (reverse events)) _ (steps_fit plan events l)
    (both_fit (map (Need Original) (ends_of (held_original (seen plan events)))) _
    (ends_fit Original (held_original (seen plan events)) w.received)
    (ends_fit Adapted (held_adapted (seen plan events)) w.adapted_received))

-- The plan.

-- a kind as it is printed says this kind
kind_says : (kind : Kind) → IfSome (preview_size kind) (λ size. size < 2 ^ 62) → SaysKind (kind_text kind) kind
kind_says Plain h = refl
kind_says Whole h = refl
kind_says (Preview size) h = printed (codes "preview") (Some size) (omega (arith, h))

-- a length as it is printed says this length
len_says : (len : Option ℕ) → IfSome len (λ bytes. bytes < 2 ^ 62) → SaysLength (length_text len) len
len_says None h = refl
len_says (Some bytes) h = printed (codes " len") (Some bytes) (omega (arith, h))

-- a plan as it is printed says it, but for its vectoring point
plan_says_it : (plan : Plan) → SaysPlan (plan_text plan) (said_plan plan)
plan_says_it plan =
    let bounds = is_plan plan in
    let allow = allow_text (plan.allow, plan.retry) in
    record {
      parts = record {
        kind_text = kind_text plan.kind;
        len_text = length_text plan.len;
        text_is = append_assoc (codes "plan " ++ kind_text plan.kind) allow (length_text plan.len)
            ∙ append_assoc (codes "plan ") (kind_text plan.kind) (allow ++ length_text plan.len);
        kind_is = kind_says plan.kind bounds.preview;
        len_is = len_says plan.len bounds.len;
      };
      in_range = (bounds.preview, bounds.len);
      point = refl;
    }

-- The text.

-- events are printed as the lines of their steps
steps_text : (events : List Event) → events_lines events ≡ lines_text (map Step events)
steps_text [] = refl
steps_text (event ∷ events) =
    append_assoc (event_text event) (codes "\n") (events_lines events) ∙ ap (λ t. event_text event ++ 10 ∷ t) (steps_text events)

-- the places that are asked for are printed as the lines of their questions
places_text : (tape : Tape) (places : List ℕ) → needs_lines tape places ≡ lines_text (map (Need tape) places)
places_text tape [] = refl
places_text tape (place ∷ places) =
    append_assoc (line_text (Need tape place)) (codes "\n") (needs_lines tape places)
    ∙ ap (λ t. line_text (Need tape place) ++ 10 ∷ t) (places_text tape places)

module _ (caption : Caption) (plan : Plan) (events : List Event) where
  abbrev original : List Line
  original = map (Need Original) (ends_of (held_original (seen plan events)))

  abbrev adapted : List Line
  adapted = map (Need Adapted) (ends_of (held_adapted (seen plan events)))

  abbrev rest : List ℕ
  rest = lines_text (printed_lines plan events)

  abbrev named : List ℕ
  named = codes "# exchange " ++ id_text caption.id

  abbrev timed : List ℕ
  timed = codes "# at " ++ moment_text caption.at

  abbrev asked : List ℕ
  asked = codes "# " ++ point_word plan.point ++ request_words caption.method.now caption.target.now

  -- the questions about the original are printed first, and then those about the adapted message
  needs_are : needs_text (seen plan events) ≡ lines_text original ++ lines_text adapted
  unfolding needs_text
  needs_are =
      ap (λ t. t ++ needs_lines Adapted (ends_of (held_adapted (seen plan events))))
      (places_text Original (ends_of (held_original (seen plan events))))
      ∙ ap (λ t. lines_text original ++ t) (places_text Adapted (ends_of (held_adapted (seen plan events))))

  -- the events, and the questions after them, are printed as these lines
  rest_is : events_lines (reverse events) ++ needs_text (seen plan events) ≡ rest
  rest_is =
      ap (λ t. t ++ needs_text (seen plan events)) (steps_text (reverse events))
      ∙ ap (λ t. lines_text (map Step (reverse events)) ++ t) (needs_are ∙ sym (lines_joined original adapted))
      ∙ sym (lines_joined (map Step (reverse events)) (original ++ adapted))

  -- texts that are joined from the left are those that are joined from the right
  moved : (a b c d : List ℕ) → (a ++ b) ++ c ++ d ≡ a ++ (b ++ (c ++ d))
  moved a b c d = append_assoc (a ++ b) c d ∙ append_assoc a b (c ++ d)

  -- the plan's line and the lines after it
  after_caption : history_text plan events ++ needs_text (seen plan events) ≡ plan_text plan ++ 10 ∷ rest
  unfolding history_text
  after_caption =
      moved (plan_text plan) (codes "\n") (events_lines (reverse events)) (needs_text (seen plan events))
      ∙ ap (λ t. plan_text plan ++ 10 ∷ t) rest_is

  -- three comments and what follows them
  caption_is : (more : List ℕ) → caption_text caption plan.point ++ more ≡ named ++ 10 ∷ (timed ++ 10 ∷ (asked ++ 10 ∷ more))
  unfolding caption_text
  caption_is more = five named (codes "# at ") (moment_text caption.at) asked more
    where
      five : (a b c d more : List ℕ) → ((((a ++ 10 ∷ b) ++ c) ++ 10 ∷ []) ++ (d ++ 10 ∷ [])) ++ more
          ≡ a ++ 10 ∷ ((b ++ c) ++ 10 ∷ (d ++ 10 ∷ more))
      five a b c d more =
          append_assoc ((a ++ 10 ∷ b) ++ c ++ 10 ∷ []) (d ++ 10 ∷ []) more
          ∙ append_assoc ((a ++ 10 ∷ b) ++ c) (10 ∷ []) ((d ++ 10 ∷ []) ++ more)
          ∙ ap (λ t. ((a ++ 10 ∷ b) ++ c) ++ 10 ∷ t) (append_assoc d (10 ∷ []) more)
          ∙ append_assoc (a ++ 10 ∷ b) c (10 ∷ (d ++ 10 ∷ more))
          ∙ append_assoc a (10 ∷ b) (c ++ 10 ∷ (d ++ 10 ∷ more))
          ∙ ap (λ t. a ++ 10 ∷ t) (sym (append_assoc b c (10 ∷ (d ++ 10 ∷ more))))

  abbrev sent_rest : List ℕ
  sent_rest = rest ++ last_comment

  -- the plan's line after the comments, and the last comment after all
  script_is : sent_script caption plan events ≡ named ++ 10 ∷ (timed ++ 10 ∷ (asked ++ 10 ∷ (plan_text plan ++ 10 ∷ sent_rest)))
  script_is =
      ap (λ t. t ++ last_comment) (append_assoc (caption_text caption plan.point) (history_text plan events) (needs_text (seen plan events))
      ∙ ap (λ t. caption_text caption plan.point ++ t) after_caption)
      ∙ append_assoc (caption_text caption plan.point) (plan_text plan ++ 10 ∷ rest) last_comment
      ∙ ap (λ t. caption_text caption plan.point ++ t) (append_assoc (plan_text plan) (10 ∷ rest) last_comment)
      ∙ caption_is (plan_text plan ++ 10 ∷ sent_rest)

  -- what is read of it
  pub printed_read : All (λ b. b < 2 ^ 8) caption.method.now → All (λ b. b < 2 ^ 8) caption.target.now → IsLegal plan events
      → SaysAll (said (lines_of (sent_script caption plan events))) (said_plan plan) (printed_lines plan events)
  printed_read method target legal =
      let one = line_then named (timed ++ 10 ∷ (asked ++ 10 ∷ (plan_text plan ++ 10 ∷ sent_rest)))
      (joined (codes "# exchange ") (id_text caption.id) (const (codes "# exchange ") refl) (id caption.id)) in
      let two = line_then timed (asked ++ 10 ∷ (plan_text plan ++ 10 ∷ sent_rest))
      (joined (codes "# at ") (moment_text caption.at) (const (codes "# at ") refl) (moment caption.at)) in
      let three = line_then asked (plan_text plan ++ 10 ∷ sent_rest)
      (joined (codes "# " ++ point_word plan.point) (request_words caption.method.now caption.target.now)
      (joined (codes "# ") (point_word plan.point) (const (codes "# ") refl) (point plan.point))
      (request caption.method.now caption.target.now method target)) in
      let four = line_then (plan_text plan) sent_rest (plan_line plan) in
      let all : said (lines_of (sent_script caption plan events)) ≡ plan_text plan ∷ said (lines_of sent_rest) =
      ap (λ t. said (lines_of t)) script_is ∙ ap said one ∙ ap said two ∙ ap said three ∙ ap said four in
      subst (λ (texts : List (List ℕ)). SaysAll texts (said_plan plan) (printed_lines plan events)) (sym all)
      (plan_says_it plan, lines_say (printed_lines plan events) (lines_fit plan events legal))
