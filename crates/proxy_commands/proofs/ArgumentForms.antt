-- One argument or two, and what they say.
use Rattle.std.proofs.Common.{◌≡◌, ℕ, ◌≤◌, List, [], ◌∷◌, length, get_or, map, Some, None, sym, ap, ◌∙◌, arith, subst}
use Rattle.proxy_commands.specs.declared.command.Command.{Command}
use Rattle.proxy_commands.specs.declared.command.Command.TheVariants.{Trace, Chunks}
use Rattle.proxy_commands.specs.declared.command.TheConstants.{MAX_PIECE}
use Rattle.proxy_commands.specs.Reading.{decimal_of}
use Rattle.proxy_commands.specs.Command.{IsPieceSize, IsCommand}
use Rattle.proxy_commands.proofs.Decimals.{decimal_of-number, number-decimal_of}

-- the words of a list of one element are the word of that element
pub one_word : {X : Type 0} (f : X → List ℕ) (xs : List X) (a : X) → length xs ≡ 1 → a ≡ get_or xs 0 a → map f xs ≡ f a ∷ []
one_word f [] a e h = absurd (omega arith)
one_word f (x ∷ []) a e h = ap (λ y. f y ∷ []) (sym h)
one_word f (x ∷ y ∷ ys) a e h = absurd (omega arith)

-- of a list of two elements, the words are those of the first and of the second
pub two_words : {X : Type 0} (f : X → List ℕ) (xs : List X) (a b : X) → length xs ≡ 2 → a ≡ get_or xs 0 a → b ≡ get_or xs 1 b
    → map f xs ≡ f a ∷ f b ∷ []
two_words f [] a b e h i = absurd (omega arith)
two_words f (x ∷ []) a b e h i = absurd (omega arith)
two_words f (x ∷ y ∷ []) a b e h i = ap (λ z. f z ∷ f y ∷ []) (sym h) ∙ ap (λ z. f a ∷ f z ∷ []) (sym i)
two_words f (x ∷ y ∷ z ∷ zs) a b e h i = absurd (omega arith)

-- two words name no command where the second is no size
pub no_size : (words : List (List ℕ)) (word digits : List ℕ) → words ≡ word ∷ digits ∷ [] → ((size : ℕ) → IsPieceSize digits size → ⊥)
    → (command : Command) → IsCommand words command → ⊥
no_size words word digits e none Trace h = absurd (cc)
no_size words word digits e none (Chunks size) h =
    let same : h.0 ≡ digits = cc in
    none size (subst (λ (d : List ℕ). IsPieceSize d size) same h.2)

-- digits of a number of at least 1 and at most the greatest piece are a size of pieces
pub size_is : (digits : List ℕ) (size : ℕ) → decimal_of digits ≡ Some size → 1 ≤ size → size ≤ MAX_PIECE → IsPieceSize digits size
size_is digits size e some bound = record { number = number-decimal_of digits size e; some = some; bound = bound }

-- digits of a number outside the bounds of a piece are no size of pieces
pub not_a_size : (digits : List ℕ) (read : ℕ) → decimal_of digits ≡ Some read → ((1 ≤ read) → (read ≤ MAX_PIECE) → ⊥) → (size : ℕ)
    → IsPieceSize digits size → ⊥
not_a_size digits read e outside size h =
    let f = decimal_of-number digits size h.number in
    let same : size ≡ read = cc in
    outside (subst (λ (n : ℕ). 1 ≤ n) same h.some) (subst (λ (n : ℕ). n ≤ MAX_PIECE) same h.bound)

-- digits that write no number are no size of pieces
pub no_number : (digits : List ℕ) → decimal_of digits ≡ None → (size : ℕ) → IsPieceSize digits size → ⊥
no_number digits e size h = let f = decimal_of-number digits size h.number in absurd (cc)
