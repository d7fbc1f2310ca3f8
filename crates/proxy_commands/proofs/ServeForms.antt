-- What `serve` reads and says.
use Rattle.std.proofs.Common.{◌≡◌, ℕ, ◌+◌, ◌≤◌, List, length, take, Option, Some, None, IfSome, Result, Ok, Err, IfOk, IfErr, OnOk, sym}
use Rattle.std.proofs.Common.{subst}
use Rattle.std.specs.Io.KnownBytes.{Appends}
use Rattle.proxy_config.specs.Config.{Refuses}
use Rattle.proxy_config.specs.declared.config.Config.{Config as Configuration}
use Rattle.proxy_config.specs.declared.fault.ConfigFault.{ConfigFault}
use Rattle.proxy_config.specs.declared.fault.ConfigFault.TheVariants.{Text as NoDocument, Key as AtKey, NoMemory as WithoutMemory}
use Rattle.adapt_bytes.specs.declared.limits.TheConstants.{MAX_INPUT}
use Rattle.proxy_commands.specs.declared.error.Error.TheVariants.{Usage, ReadFailed, WriteFailed, InputTooLong, Line, NoMemory}
use Rattle.proxy_commands.specs.declared.serve_error.ServeError.{ServeError}
use Rattle.proxy_commands.specs.declared.serve_error.ServeError.TheVariants.{Ended, CannotRead, Config, Key, KeyLine, CannotListen}
use Rattle.proxy_commands.specs.declared.serve_error.ServeError.TheVariants.{CannotListenOn, NoAnswer, AuditMissing}
use Rattle.proxy_commands.specs.Serve.{IsConfigured, IsRefusedAs, IsUnconfigured}
use Rattle.proxy_commands.proofs.Runs.{whole, more}

-- what is written is the text
pub says : {E : Type 0} (a b : Option (List ℕ)) (written text : List ℕ) (r : Result (Unit {0}) E) → text ≡ written
    → OnOk r (Appends a b written) → OnOk r (Appends a b text)
says a b written text r e h = subst (λ (t : List ℕ). OnOk r (Appends a b t)) (sym e) h

-- a configuration of the input is one of all that was there to read
pub configured : (known : Option (List ℕ)) (input : List ℕ) (r : Result Configuration ServeError)
    → IfSome known (λ bytes. input ≡ take (MAX_INPUT + 1) bytes)
    → IfOk r (IsConfigured input) → IfOk r (λ config. IfSome known (λ bytes. IsConfigured bytes config))
configured known input (Err error) read h = tt
configured None input (Ok config) read h = tt
configured (Some bytes) input (Ok config) read h = subst (λ (x : List ℕ). IsConfigured x config) (sym (whole bytes input read h.short)) h

-- the fault of a text that isn't too long is why it is refused
pub refused_so : (text : List ℕ) (fault : ConfigFault) (error : ServeError) → length text ≤ MAX_INPUT → Refuses text fault
    → IsRefusedAs fault error → IsUnconfigured text error
refused_so text NoDocument error short refuses is = let P : ServeError → Type 0 = λ e. IsUnconfigured text e in
    subst P (sym is) (short, refuses)
refused_so text (AtKey key) error short refuses is = let P : ServeError → Type 0 = λ e. IsUnconfigured text e in
    subst P (sym is) (short, refuses)
refused_so text WithoutMemory error short refuses is = let P : ServeError → Type 0 = λ e. IsUnconfigured text e in subst P (sym is) tt

-- what was read of a text is refused with an error only where the whole text is
refused : (bytes input : List ℕ) (error : ServeError) → input ≡ take (MAX_INPUT + 1) bytes → IsUnconfigured input error
    → IsUnconfigured bytes error
refused bytes input (Ended InputTooLong) read h = more bytes input read h
refused bytes input (Ended NoMemory) read h = tt
refused bytes input (Ended ReadFailed) read h = tt
refused bytes input (Ended WriteFailed) read h = absurd h
refused bytes input (Ended Usage) read h = absurd h
refused bytes input (Ended (Line number)) read h = absurd h
refused bytes input Config read h =
    subst (λ (x : List ℕ). (length x ≤ MAX_INPUT) × Refuses x NoDocument) (sym (whole bytes input read h.0)) h
refused bytes input (Key key) read h =
    subst (λ (x : List ℕ). (length x ≤ MAX_INPUT) × Refuses x (AtKey key)) (sym (whole bytes input read h.0)) h
refused bytes input (KeyLine key number) read h = absurd h
refused bytes input CannotListen read h = absurd h
refused bytes input (CannotListenOn address) read h = absurd h
refused bytes input NoAnswer read h = absurd h
refused bytes input (CannotRead path) read h = absurd h
refused bytes input AuditMissing read h = absurd h

-- a refusal of the input is one of all bytes that were there to read, where they are known
pub unconfigured : (known : Option (List ℕ)) (input : List ℕ) (r : Result Configuration ServeError)
    → IfSome known (λ bytes. input ≡ take (MAX_INPUT + 1) bytes)
    → IfErr r (IsUnconfigured input) → IfErr r (λ error. IfSome known (λ bytes. IsUnconfigured bytes error))
unconfigured known input (Ok config) read h = tt
unconfigured None input (Err error) read h = tt
unconfigured (Some bytes) input (Err error) read h = refused bytes input error read h
