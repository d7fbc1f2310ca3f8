-- Which task words give, by their number.
use Rattle.std.proofs.Common.{◌≡◌, ◌≢◌, ◌⊎◌, ℕ, ◌≤◌, ◌<◌, List, [], ◌∷◌, length, map, get_or, Bool, true, false, Option, Some, None, IfSome}
use Rattle.std.proofs.Common.{IfNone, String, Global, string_bytes, codes, bytes_eq, inl, inr, arith, rules, refl, sym, ap, ◌∙◌}
use Rattle.std.proofs.lemmas.Bool.{false≢true}
use Rattle.std.proofs.lemmas.Slice.Eq.{bytes_eq-Decides}
use Rattle.proxy_commands.specs.declared.task.Task.{Task}
use Rattle.proxy_commands.specs.declared.task.Task.TheVariants.{Serve, Check, Tell, Probe, Help, Version}
use Rattle.proxy_commands.specs.Task.{HasPathAlone, IsTask, IsTaskAlone, IsTaskBefore, IsTaskOfThree, IsTaskWithPath}

-- equal lists of words have the same first word
same_head : (x y : List ℕ) (rest more : List (List ℕ)) → x ∷ rest ≡ y ∷ more → x ≡ y
same_head x y rest more e = search (rules, e)

-- equal lists of two words or more have the same second word
same_second : (x y u v : List ℕ) (rest more : List (List ℕ)) → x ∷ y ∷ rest ≡ u ∷ v ∷ more → y ≡ v
same_second x y u v rest more e = search (rules, e)

-- one word isn't two words or more
longer : (x y z : List ℕ) (rest : List (List ℕ)) → x ∷ [] ≡ y ∷ z ∷ rest → ⊥
longer x y z rest e = search (rules, e)

-- one word
lone_or_path : (words : List (List ℕ)) (word task : List ℕ) → words ≡ word ∷ [] → (words ≡ task ∷ []) ⊎ HasPathAlone words task
    → word ≡ task
lone_or_path words word task e (inl alone) = same_head word task [] [] (sym e ∙ alone)
lone_or_path words word task e (inr (path, is)) = absurd (longer word task (codes "--config") (path ∷ []) (sym e ∙ is))

-- a single word that gives a task is the word of that task alone
lone : (words : List (List ℕ)) (word : List ℕ) → words ≡ word ∷ [] → (task : Task) → IsTask words task → IsTaskAlone word task
lone words word e Tell (first, rest, is, more) = longer word (codes "tell") first rest (sym e ∙ is)
lone words word e Probe is = sym (same_head (codes "probe") word is.0 [] (sym is.1 ∙ e))
lone words word e Serve is = lone_or_path words word (codes "serve") e is
lone words word e Check is = lone_or_path words word (codes "check") e is
lone words word e Help is = sym (same_head is.0 word [] [] (sym is.1 ∙ e)) ∙ is.2
lone words word e Version is = sym (same_head is.0 word [] [] (sym is.1 ∙ e)) ∙ is.2

-- a single word that is no task's word alone gives no task
pub none_alone : (words : List (List ℕ)) (word : List ℕ) → words ≡ word ∷ [] → (found : Option Task)
    → IfNone found ((task : Task) → IsTaskAlone word task → ⊥) → IfNone found ((task : Task) → IsTask words task → ⊥)
none_alone words word e (Some task) h = tt
none_alone words word e None h = λ task is. h task (lone words word e task is)

-- a word that may stand before a path may stand alone
pub some_alone : (word : List ℕ) (found : Option Task) → IfSome found (IsTaskWithPath word) → IfSome found (IsTaskAlone word)
some_alone word None h = tt
some_alone word (Some Serve) h = h
some_alone word (Some Check) h = h
some_alone word (Some Probe) h = h
some_alone word (Some Tell) h = absurd h
some_alone word (Some Help) h = absurd h
some_alone word (Some Version) h = absurd h

-- a word that is none of these two stands alone only where it may stand before a path
path_of_alone : (word : List ℕ) → word ≢ codes "--help" → word ≢ codes "--version" → (task : Task) → IsTaskAlone word task
    → IsTaskWithPath word task
path_of_alone word help version Serve is = is
path_of_alone word help version Check is = is
path_of_alone word help version Probe is = is
path_of_alone word help version Tell is = absurd is
path_of_alone word help version Help is = absurd (help is)
path_of_alone word help version Version is = absurd (version is)

-- a word that may stand before no path, and is no help or version, stands for no task alone
pub none_with_path : (word : List ℕ) (found : Option Task) → word ≢ codes "--help" → word ≢ codes "--version"
    → IfNone found ((task : Task) → IsTaskWithPath word task → ⊥) → IfNone found ((task : Task) → IsTaskAlone word task → ⊥)
none_with_path word (Some task) help version h = tt
none_with_path word None help version h = λ task is. h task (path_of_alone word help version task is)

-- a word that compares unequal is another word
pub differs : (word other : List ℕ) → bytes_eq word other ≡ false → word ≢ other
differs word other unequal same = false≢true (sym unequal ∙ (bytes_eq-Decides word other).1 same)

-- three words
with_path : (words : List (List ℕ)) (word option path : List ℕ) → words ≡ word ∷ option ∷ path ∷ [] → option ≡ codes "--config"
    → (task : Task) → IsTaskWithPath word task → IsTask words task
with_path words word option path e is Serve at = inr (
  path,
  e ∙ ap (λ (w : List ℕ). w ∷ option ∷ path ∷ []) at ∙ ap (λ (o : List ℕ). codes "serve" ∷ o ∷ path ∷ []) is,
)
with_path words word option path e is Check at = inr (
  path,
  e ∙ ap (λ (w : List ℕ). w ∷ option ∷ path ∷ []) at ∙ ap (λ (o : List ℕ). codes "check" ∷ o ∷ path ∷ []) is,
)
with_path words word option path e is Probe at = (option ∷ path ∷ [], e ∙ ap (λ (w : List ℕ). w ∷ option ∷ path ∷ []) at)
with_path words word option path e is Tell at = absurd at
with_path words word option path e is Help at = absurd at
with_path words word option path e is Version at = absurd at

-- of two words and more, the first says the task, where they are no word, `--config` and a path
before_all : (words : List (List ℕ)) (word next : List ℕ) (rest : List (List ℕ)) → words ≡ word ∷ next ∷ rest
    → ((task : List ℕ) → HasPathAlone words task → ⊥)
    → (task : Task) → IsTaskBefore word task → IsTask words task
before_all words word next rest e none Tell at = (next, rest, e ∙ ap (λ (w : List ℕ). w ∷ next ∷ rest) at, none (codes "tell"))
before_all words word next rest e none Probe at = (next ∷ rest, e ∙ ap (λ (w : List ℕ). w ∷ next ∷ rest) at)
before_all words word next rest e none Serve at = absurd at
before_all words word next rest e none Check at = absurd at
before_all words word next rest e none Help at = absurd at
before_all words word next rest e none Version at = absurd at

-- three words whose second is not the option of a path are no word, that option and a path
no_path : (words : List (List ℕ)) (word option path : List ℕ) → words ≡ word ∷ option ∷ path ∷ [] → option ≢ codes "--config"
    → (task : List ℕ) → HasPathAlone words task → ⊥
no_path words word option path e other task (at, is) =
    other (same_second word option task (codes "--config") (path ∷ []) (at ∷ []) (sym e ∙ is))

-- three words give the task that their first two say
of_three : (words : List (List ℕ)) (word option path : List ℕ) → words ≡ word ∷ option ∷ path ∷ [] → (task : Task)
    → IsTaskOfThree word option task → IsTask words task
of_three words word option path e task (inl (is, at)) = with_path words word option path e is task at
of_three words word option path e task (inr (other, at)) =
    before_all words word option (path ∷ []) e (no_path words word option path e other) task at

-- a task that is found by the first two of three words is given by them all
pub some_of_three : (words : List (List ℕ)) (word option path : List ℕ) → words ≡ word ∷ option ∷ path ∷ [] → (found : Option Task)
    → IfSome found (IsTaskOfThree word option) → IfSome found (IsTask words)
some_of_three words word option path e (Some task) h = of_three words word option path e task h
some_of_three words word option path e None h = tt

-- three words that are a task's word alone, or before a path alone, have it first and then the option
path_or_lone : (words : List (List ℕ)) (word option path task : List ℕ) → words ≡ word ∷ option ∷ path ∷ []
    → (words ≡ task ∷ []) ⊎ HasPathAlone words task
    → (option ≡ codes "--config") × (word ≡ task)
path_or_lone words word option path task e (inl alone) = absurd (longer task word option (path ∷ []) (sym alone ∙ e))
path_or_lone words word option path task e (inr (at, is)) = (
  same_second word option task (codes "--config") (path ∷ []) (at ∷ []) (sym e ∙ is),
  same_head word task (option ∷ path ∷ []) (codes "--config" ∷ at ∷ []) (sym e ∙ is),
)

-- `tell` with or without the option
tells : (words : List (List ℕ)) (word option path : List ℕ) (same : Bool) → words ≡ word ∷ option ∷ path ∷ []
    → bytes_eq option (codes "--config") ≡ same
    → word ≡ codes "tell" → (HasPathAlone words (codes "tell") → ⊥) → IsTaskOfThree word option Tell
tells words word option path true e same is none =
    let config : option ≡ codes "--config" = (bytes_eq-Decides option (codes "--config")).0 same in
    absurd (none (path, e ∙ ap (λ (w : List ℕ). w ∷ option ∷ path ∷ []) is ∙ ap (λ (o : List ℕ). codes "tell" ∷ o ∷ path ∷ []) config))
tells words word option path false e same is none =
    inr (λ config. false≢true (sym same ∙ (bytes_eq-Decides option (codes "--config")).1 config), is)

-- the word `probe` is that of its task before two words, the option of a path or others
probes : (word option : List ℕ) (same : Bool) → bytes_eq option (codes "--config") ≡ same → word ≡ codes "probe"
    → IsTaskOfThree word option Probe
probes word option true same is = inl ((bytes_eq-Decides option (codes "--config")).0 same, is)
probes word option false same is = inr (λ config. false≢true (sym same ∙ (bytes_eq-Decides option (codes "--config")).1 config), is)

-- a task that three words give is one that their first two say
from_three : (words : List (List ℕ)) (word option path : List ℕ) → words ≡ word ∷ option ∷ path ∷ [] → (task : Task) → IsTask words task
    → IsTaskOfThree word option task
from_three words word option path e Serve is = inl (path_or_lone words word option path (codes "serve") e is)
from_three words word option path e Check is = inl (path_or_lone words word option path (codes "check") e is)
from_three words word option path e Tell (first, rest, is, none) =
    tells words word option path (bytes_eq option (codes "--config")) e refl
    (same_head word (codes "tell") (option ∷ path ∷ []) (first ∷ rest) (sym e ∙ is)) none
from_three words word option path e Probe (choice, is) =
    probes word option (bytes_eq option (codes "--config")) refl (same_head word (codes "probe") (option ∷ path ∷ []) choice (sym e ∙ is))
from_three words word option path e Help is = absurd (longer is.0 word option (path ∷ []) (sym is.1 ∙ e))
from_three words word option path e Version is = absurd (longer is.0 word option (path ∷ []) (sym is.1 ∙ e))

-- three words of which the first two are those of no task give none
pub none_of_three : (words : List (List ℕ)) (word option path : List ℕ) → words ≡ word ∷ option ∷ path ∷ [] → (found : Option Task)
    → IfNone found ((task : Task) → IsTaskOfThree word option task → ⊥) → IfNone found ((task : Task) → IsTask words task → ⊥)
none_of_three words word option path e (Some task) h = tt
none_of_three words word option path e None h = λ task is. h task (from_three words word option path e task is)

-- another number of words
pub some_before : (words : List (List ℕ)) (word next : List ℕ) (rest : List (List ℕ)) → words ≡ word ∷ next ∷ rest
    → ((task : List ℕ) → HasPathAlone words task → ⊥)
    → (found : Option Task) → IfSome found (IsTaskBefore word) → IfSome found (IsTask words)
some_before words word next rest e none (Some task) h = before_all words word next rest e none task h
some_before words word next rest e none None h = tt

-- two words or more that are no word before a path alone are no word alone either
lone_none : (words : List (List ℕ)) (word next : List ℕ) (rest : List (List ℕ)) (task : List ℕ) → words ≡ word ∷ next ∷ rest
    → ((task : List ℕ) → HasPathAlone words task → ⊥)
    → (words ≡ task ∷ []) ⊎ HasPathAlone words task → ⊥
lone_none words word next rest task e none (inl alone) = longer task word next rest (sym alone ∙ e)
lone_none words word next rest task e none (inr path) = none task path

-- two words or more, without a path alone, that give a task begin with its word, which takes others after it
from_all : (words : List (List ℕ)) (word next : List ℕ) (rest : List (List ℕ)) → words ≡ word ∷ next ∷ rest
    → ((task : List ℕ) → HasPathAlone words task → ⊥)
    → (task : Task) → IsTask words task → IsTaskBefore word task
from_all words word next rest e none Tell (first, more, is, other) = same_head word (codes "tell") (next ∷ rest) (first ∷ more) (sym e ∙ is)
from_all words word next rest e none Probe is = same_head word (codes "probe") (next ∷ rest) is.0 (sym e ∙ is.1)
from_all words word next rest e none Serve is = absurd (lone_none words word next rest (codes "serve") e none is)
from_all words word next rest e none Check is = absurd (lone_none words word next rest (codes "check") e none is)
from_all words word next rest e none Help is = absurd (longer is.0 word next rest (sym is.1 ∙ e))
from_all words word next rest e none Version is = absurd (longer is.0 word next rest (sym is.1 ∙ e))

-- two words or more, without a path alone, give no task where the first takes no others
pub none_before : (words : List (List ℕ)) (word next : List ℕ) (rest : List (List ℕ)) → words ≡ word ∷ next ∷ rest
    → ((task : List ℕ) → HasPathAlone words task → ⊥)
    → (found : Option Task) → IfNone found ((task : Task) → IsTaskBefore word task → ⊥)
    → IfNone found ((task : Task) → IsTask words task → ⊥)
none_before words word next rest e none (Some task) h = tt
none_before words word next rest e none None h = λ task is. h task (from_all words word next rest e none task is)

-- the arguments, by their number
pub one_word : (args : List (String Global)) (word : String Global) → 1 ≤ length args → length args < 2 → word ≡ get_or args 0 word
    → map string_bytes args ≡ string_bytes word ∷ []
one_word [] word some few is = absurd (omega (arith, some))
one_word (x ∷ []) word some few is = ap (λ (w : String Global). string_bytes w ∷ []) (sym is)
one_word (x ∷ y ∷ rest) word some few is = absurd (omega (arith, few))

abbrev pub ThreeWords : List (List ℕ) → List ℕ → List ℕ → Type 0
ThreeWords words word option = (path : List ℕ) × (words ≡ word ∷ option ∷ path ∷ [])

-- three arguments are the words of the first, of the second and of a path
pub three_words : (args : List (String Global)) (word option : String Global) → 3 ≤ length args → length args < 4
    → word ≡ get_or args 0 word → option ≡ get_or args 1 option
    → ThreeWords (map string_bytes args) (string_bytes word) (string_bytes option)
three_words [] word option some few is at = absurd (omega (arith, some))
three_words (x ∷ []) word option some few is at = absurd (omega (arith, some))
three_words (x ∷ y ∷ []) word option some few is at = absurd (omega (arith, some))
three_words (x ∷ y ∷ z ∷ []) word option some few is at = (
  string_bytes z,
  ap (λ (w : String Global). string_bytes w ∷ string_bytes y ∷ string_bytes z ∷ []) (sym is)
      ∙ ap (λ (o : String Global). string_bytes word ∷ string_bytes o ∷ string_bytes z ∷ []) (sym at),
)
three_words (x ∷ y ∷ z ∷ u ∷ rest) word option some few is at = absurd (omega (arith, few))

-- two words and more, which are not three
pub record Others (words : List (List ℕ)) (word : List ℕ) : Type 0 where
  pub next : List ℕ
  pub rest : List (List ℕ)
  pub are : words ≡ word ∷ next ∷ rest
  pub no_path : (task : List ℕ) → HasPathAlone words task → ⊥

-- two words aren't three
two_none : (x y u v w : List ℕ) → x ∷ y ∷ [] ≡ u ∷ v ∷ w ∷ [] → ⊥
two_none x y u v w e = search (rules, e)

-- four words or more aren't three
four_none : (x y z t u v w : List ℕ) (rest : List (List ℕ)) → x ∷ y ∷ z ∷ t ∷ rest ≡ u ∷ v ∷ w ∷ [] → ⊥
four_none x y z t u v w rest e = search (rules, e)

-- two arguments are two words or more, the first argument's first, and no word before a path alone
pub two_words : (args : List (String Global)) (word : String Global) → 2 ≤ length args → length args < 3 → word ≡ get_or args 0 word
    → Others (map string_bytes args) (string_bytes word)
two_words [] word some few is = absurd (omega (arith, some))
two_words (x ∷ []) word some few is = absurd (omega (arith, some))
two_words (x ∷ y ∷ []) word some few is = record {
  next = string_bytes y;
  rest = [];
  are = ap (λ (w : String Global). string_bytes w ∷ string_bytes y ∷ []) (sym is);
  no_path = λ task has. two_none (string_bytes x) (string_bytes y) task (codes "--config") has.0 has.1;
}
two_words (x ∷ y ∷ z ∷ rest) word some few is = absurd (omega (arith, few))

-- four arguments or more are two words or more, the first argument's first, and no word before a path alone
pub four_words : (args : List (String Global)) (word : String Global) → 4 ≤ length args → word ≡ get_or args 0 word
    → Others (map string_bytes args) (string_bytes word)
four_words [] word some is = absurd (omega (arith, some))
four_words (x ∷ []) word some is = absurd (omega (arith, some))
four_words (x ∷ y ∷ []) word some is = absurd (omega (arith, some))
four_words (x ∷ y ∷ z ∷ []) word some is = absurd (omega (arith, some))
four_words (x ∷ y ∷ z ∷ u ∷ rest) word some is = record {
  next = string_bytes y;
  rest = string_bytes z ∷ string_bytes u ∷ map string_bytes rest;
  are = ap (λ (w : String Global). string_bytes w ∷ string_bytes y ∷ string_bytes z ∷ string_bytes u ∷ map string_bytes rest) (sym is);
  no_path = λ task has. four_none (string_bytes x) (string_bytes y) (string_bytes z) (string_bytes u) task (codes "--config") has.0
      (map string_bytes rest) has.1;
}
