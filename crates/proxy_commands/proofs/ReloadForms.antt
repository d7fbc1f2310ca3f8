-- What is said where a new configuration isn't taken over.
use Rattle.std.proofs.Common.{◌≡◌, ◌⊎◌, ◌++◌, ℕ, List, [], Some, codes, inl, inr, refl, subst}
use Rattle.proxy_config.specs.Changes.{fixed_rows, IsFirstChange}
use Rattle.proxy_config.specs.declared.config.Config.{Config as Configuration}
use Rattle.proxy_commands.specs.Reloads.{Answers, IsNotTaken, IsReadFault, IsSourceFault}
use Rattle.proxy_commands.specs.Sources.{IsUnread, Says}
use Rattle.proxy_commands.specs.Whole.{IsWhole}
use Rattle.proxy_commands.specs.declared.error.Error.TheVariants as errors
use Rattle.proxy_commands.specs.declared.serve_error.ServeError.{ServeError}
use Rattle.proxy_commands.specs.declared.serve_error.ServeError.TheVariants as ends
use Rattle.proxy_commands.specs.declared.source.Source.{Source}
use Rattle.proxy_commands.specs.declared.source.Source.TheVariants.{Path, Text}
use Rattle.proxy_commands.specs.declared.whole.WholeFault.{WholeFault}
use Rattle.proxy_commands.specs.declared.whole.WholeFault.TheVariants.{NoMemory as NothingLeft}

-- what a source can't be read for is a fault of it
pub unread : (source : Source) (error : ServeError) (fault : WholeFault) → IsUnread source error → IsReadFault error fault
    → IsSourceFault source fault
unread (Path path) (ends.CannotRead named) fault is read = inl (tt, read)
unread (Path path) (ends.Ended errors.NoMemory) fault is read = inr (inl read)
unread (Path path) (ends.Ended errors.Usage) fault is read = absurd is
unread (Path path) (ends.Ended errors.ReadFailed) fault is read = absurd is
unread (Path path) (ends.Ended errors.WriteFailed) fault is read = absurd is
unread (Path path) (ends.Ended errors.InputTooLong) fault is read = absurd is
unread (Path path) (ends.Ended (errors.Line number)) fault is read = absurd is
unread (Path path) ends.Config fault is read = absurd is
unread (Path path) (ends.Key key) fault is read = absurd is
unread (Path path) (ends.KeyLine key number) fault is read = absurd is
unread (Path path) ends.CannotListen fault is read = absurd is
unread (Path path) (ends.CannotListenOn address) fault is read = absurd is
unread (Path path) ends.NoAnswer fault is read = absurd is
unread (Path path) ends.AuditMissing fault is read = absurd is
unread (Text said) error fault is read = inr (inl (subst (λ it. IsReadFault it fault) is read))

-- a fault of a source is answered so
pub not_taken : (source : Source) (old : Configuration) (fault : WholeFault) (line : List ℕ) → IsSourceFault source fault
    → (line ≡ []) ⊎ Answers fault line
    → IsNotTaken source old line
not_taken source old fault line is (inl none) = inl none
not_taken source old fault line is (inr answers) = inr (inl (fault, is, answers))

-- a configuration that can't be taken over is answered so
pub refused : (source : Source) (old new : Configuration) (count : ℕ) (line : List ℕ)
    → ((text : List ℕ) × Says source text × IsWhole text new count)
    → (line ≡ []) ⊎ Answers NothingLeft line
    ⊎ ((key : List ℕ) × IsFirstChange fixed_rows old new (Some key) × (line ≡ codes "restart " ++ key))
    → IsNotTaken source old line
refused source old new count line whole (inl none) = inl none
refused source old new count line whole (inr (inl answers)) = inr (inl (NothingLeft, inr (inl refl), answers))
refused source old new count line whole (inr (inr restart)) = inr (inr (record {
  text = whole.0;
  new = new;
  count = count;
  key = restart.0;
  said = whole.1;
  whole = whole.2;
  fixed = restart.1;
  says = restart.2;
}))
