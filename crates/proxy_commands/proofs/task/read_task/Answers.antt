-- One argument is a word alone; of three a word may stand before `--config` and a path; else the first of several says the task.
use Rattle.std.proofs.Common.{◌≡◌, ℕ, List, [], ◌∷◌, map, string_bytes, sym, ap, ◌∙◌, subst}
use Rattle.proxy_commands.proofs.TaskForms.{four_words, none_alone, none_before, none_of_three, one_word, some_before, some_of_three}
use Rattle.proxy_commands.proofs.TaskForms.{three_words, two_words, Others, ThreeWords}
use Rattle.proxy_commands.proofs.task.read_task.Goals.{After-task_before, After-task_before-in-len4-up, After-task_of_three}
use Rattle.proxy_commands.proofs.task.read_task.Goals as goal

pub returns-in-len1-clause-none : goal.returns-in-len1-clause-none
returns-in-len1-clause-none c =
    let words : map string_bytes c.args.args.now ≡ string_bytes c.word-item.result ∷ [] =
    one_word c.args.args.now c.word-item.result c.in-len1.len_at_least c.in-len1.len_below c.word-item.is in
    none_alone (map string_bytes c.args.args.now) c.as_str.result.now
    (words ∙ ap (λ (w : List ℕ). w ∷ []) (sym c.as_str.ensures.value)) c.task_of.result c.task_of.ensures.none

-- two arguments are words without a path alone, the first of them as it was read
two : (c : After-task_before) → Others (map string_bytes c.args.args.now) c.as_str-in-len2.result.now
two c = subst (λ (w : List ℕ). Others (map string_bytes c.args.args.now) w) (sym c.as_str-in-len2.ensures.value)
    (two_words c.args.args.now c.word-item-then-args-lt3.result c.in-len2.len_at_least c.in-len2.len_below c.word-item-then-args-lt3.is)

pub returns-in-len2-clause-found : goal.returns-in-len2-clause-found
returns-in-len2-clause-found c =
    let o = two c in
    some_before (map string_bytes c.args.args.now) c.as_str-in-len2.result.now o.next o.rest o.are o.no_path c.task_before.result
    c.task_before.ensures.found

pub returns-in-len2-clause-none : goal.returns-in-len2-clause-none
returns-in-len2-clause-none c =
    let o = two c in
    none_before (map string_bytes c.args.args.now) c.as_str-in-len2.result.now o.next o.rest o.are o.no_path c.task_before.result
    c.task_before.ensures.none

-- three arguments are three words, the first two of them as they were read
three : (c : After-task_of_three) → ThreeWords (map string_bytes c.args.args.now) c.as_str-in-len3.result.now c.as_str-in-len3-2.result.now
three c = subst (λ (w : List ℕ). ThreeWords (map string_bytes c.args.args.now) w c.as_str-in-len3-2.result.now)
    (sym c.as_str-in-len3.ensures.value)
    (subst (λ (o : List ℕ). ThreeWords (map string_bytes c.args.args.now) (string_bytes c.word-item-then-args-lt4.result) o)
    (sym c.as_str-in-len3-2.ensures.value)
    (three_words c.args.args.now c.word-item-then-args-lt4.result c.option-item.result c.in-len3.len_at_least c.in-len3.len_below
    c.word-item-then-args-lt4.is c.option-item.is))

pub returns-in-len3-clause-found : goal.returns-in-len3-clause-found
returns-in-len3-clause-found c =
    let (path, are) = three c in
    some_of_three (map string_bytes c.args.args.now) c.as_str-in-len3.result.now c.as_str-in-len3-2.result.now path are
    c.task_of_three.result c.task_of_three.ensures.found

pub returns-in-len3-clause-none : goal.returns-in-len3-clause-none
returns-in-len3-clause-none c =
    let (path, are) = three c in
    none_of_three (map string_bytes c.args.args.now) c.as_str-in-len3.result.now c.as_str-in-len3-2.result.now path are
    c.task_of_three.result c.task_of_three.ensures.none

-- four arguments or more are words without a path alone, the first of them as it was read
four : (c : After-task_before-in-len4-up) → Others (map string_bytes c.args.args.now) c.as_str-in-len4-up.result.now
four c = subst (λ (w : List ℕ). Others (map string_bytes c.args.args.now) w) (sym c.as_str-in-len4-up.ensures.value)
    (four_words c.args.args.now c.word-item-2.result c.in-len4-up.len_at_least c.word-item-2.is)

pub returns-in-len4-up-clause-found : goal.returns-in-len4-up-clause-found
returns-in-len4-up-clause-found c =
    let o = four c in
    some_before (map string_bytes c.args.args.now) c.as_str-in-len4-up.result.now o.next o.rest o.are o.no_path
    c.task_before-in-len4-up.result c.task_before-in-len4-up.ensures.found

pub returns-in-len4-up-clause-none : goal.returns-in-len4-up-clause-none
returns-in-len4-up-clause-none c =
    let o = four c in
    none_before (map string_bytes c.args.args.now) c.as_str-in-len4-up.result.now o.next o.rest o.are o.no_path
    c.task_before-in-len4-up.result c.task_before-in-len4-up.ensures.none
