-- What a run answers, by the bytes that were read.
use Rattle.std.proofs.Common.{◌≡◌, ℕ, ◌+◌, zero, suc, ◌≤◌, ◌<◌, List, [], ◌∷◌, refl, length, take, Option, Some, None, IfSome, Result, Ok}
use Rattle.std.proofs.Common.{Err, OnOk, arith, sym, ap, ◌∙◌, subst}
use Rattle.std.proofs.lemmas.List.{length-take}
use Rattle.adapt_bytes.specs.declared.limits.TheConstants.{MAX_INPUT}
use Rattle.proxy_commands.specs.declared.command.Command.{Command}
use Rattle.proxy_commands.specs.declared.command.Command.TheVariants.{Trace, Chunks}
use Rattle.proxy_commands.specs.declared.error.Error.{Error}
use Rattle.proxy_commands.specs.declared.error.Error.TheVariants.{Usage, ReadFailed, WriteFailed, InputTooLong, Line, NoMemory}
use Rattle.std.specs.Io.KnownBytes.{Appends}
use Rattle.proxy_commands.specs.Lines.{lines_of}
use Rattle.proxy_commands.specs.Script.{IsFirstBad}
use Rattle.proxy_commands.specs.Command.{IsCommand}
use Rattle.proxy_commands.specs.Run.{IsCommandOutput, RefusesInput, PrintsOutput, Fails}

-- a list within a number of elements is its own prefix of so many
take_whole : (n : ℕ) (xs : List ℕ) → length xs ≤ n → take n xs ≡ xs
take_whole zero [] h = refl
take_whole zero (x ∷ xs) h = absurd (omega arith)
take_whole (suc n) [] h = refl
take_whole (suc n) (x ∷ xs) h = ap (λ t. x ∷ t) (take_whole n xs (omega arith))

-- an input within the limit was read whole
pub whole : (bytes input : List ℕ) → input ≡ take (MAX_INPUT + 1) bytes → length input ≤ MAX_INPUT → bytes ≡ input
whole bytes input e l =
    let count = length-take (MAX_INPUT + 1) bytes in
    let same = ap length e in
    let fits : length bytes ≤ MAX_INPUT + 1 = omega arith in
    sym (e ∙ take_whole (MAX_INPUT + 1) bytes fits)

-- an input that was read past the limit is of bytes past the limit
pub more : (bytes input : List ℕ) → input ≡ take (MAX_INPUT + 1) bytes → MAX_INPUT < length input → MAX_INPUT < length bytes
more bytes input e l =
    let count = length-take (MAX_INPUT + 1) bytes in
    let same = ap length e in
    omega arith

-- an input for which a command has an output is within the limit
short : (command : Command) (input output : List ℕ) → IsCommandOutput command input output → length input ≤ MAX_INPUT
short Trace input output h = h.0
short (Chunks piece_size) input output h = h.0

-- a command's output for what was read, added to what was printed, is the output printed for the arguments
pub answered : (words : List (List ℕ)) (known : Option (List ℕ)) (command : Command) (input output : List ℕ)
    (before behind : Option (List ℕ))
    → IsCommand words command → IfSome known (λ bytes. input ≡ take (MAX_INPUT + 1) bytes) → IsCommandOutput command input output
    → Appends before behind output
    → PrintsOutput words known before behind
answered words None command input output before behind named read answer added = tt
answered words (Some bytes) command input output before behind named read answer added =
    let same = whole bytes input read (short command input output answer) in
    (command, output, named, subst (λ (x : List ℕ). IsCommandOutput command x output) (sym same) answer, added)

-- where one thing gives another, and holds if a result is good, the other does so too
pub on_ok : {E : Type 0} (P Q : Type 0) (r : Result (Unit {0}) E) → (P → Q) → OnOk r P → OnOk r Q
on_ok P Q (Ok x) f h = f h
on_ok P Q (Err e) f h = tt

-- a command that refuses what was read fails so for the arguments and the bytes
pub failed : (words : List (List ℕ)) (known : Option (List ℕ)) (command : Command) (input : List ℕ) (error : Error)
    → IsCommand words command → IfSome known (λ bytes. input ≡ take (MAX_INPUT + 1) bytes) → RefusesInput command input error
    → Fails words known error
failed words None Trace input InputTooLong named read refused = ((Trace, named), tt)
failed words (Some bytes) Trace input InputTooLong named read refused = ((Trace, named), more bytes input read refused)
failed words None (Chunks size) input InputTooLong named read refused = ((Chunks size, named), tt)
failed words (Some bytes) (Chunks size) input InputTooLong named read refused = ((Chunks size, named), more bytes input read refused)
failed words None Trace input (Line number) named read refused = (named, tt)
failed words (Some bytes) Trace input (Line number) named read refused =
    let same = whole bytes input read refused.0 in
    (named, subst (λ (x : List ℕ). (length x ≤ MAX_INPUT) × IsFirstBad (lines_of x) number) (sym same) (refused.0, refused.1))
failed words known (Chunks size) input (Line number) named read refused = absurd refused
failed words known Trace input NoMemory named read refused = (Trace, named)
failed words known (Chunks size) input NoMemory named read refused = (Chunks size, named)
failed words known Trace input Usage named read refused = absurd refused
failed words known (Chunks size) input Usage named read refused = absurd refused
failed words known Trace input ReadFailed named read refused = absurd refused
failed words known (Chunks size) input ReadFailed named read refused = absurd refused
failed words known Trace input WriteFailed named read refused = absurd refused
failed words known (Chunks size) input WriteFailed named read refused = absurd refused
