-- What is printed for commands while they are played one after the other. (this project)
use Rattle.std.specs.Prelude.{ℕ, ◌≡◌, List, ◌++◌}
use Rattle.pref_core.specs.Limits.{Limits}
use Rattle.pref_core.specs.Step.{System, replies_from}
use Rattle.pref_core.specs.Systems.{Running, StandsForSystem}
use Rattle.pref_script.specs.Commands.{Command, accepted_events}
use Rattle.pref_script.specs.Output.{command_lines}

-- what the sequential table prints for commands from a system on
abbrev pub printed_from : Limits → ℕ → System → List Command → List ℕ
printed_from limits width system commands = command_lines width commands (replies_from limits system (accepted_events commands))

-- These commands were played from one system to one that what runs now represents: whatever commands follow, the old text with
-- what is printed for all is the new one with what is printed for those that follow.
pub record PlaysFrom (width : ℕ) (system : System) (limits : Limits) (commands : List Command) (old new : List ℕ) (after : Running) : Type 0 where
  pub next : System
  pub stands : StandsForSystem after next
  pub goes_on : (more : List Command) → new ++ printed_from limits width next more ≡ old ++ printed_from limits width system (commands ++ more)

-- the same from each system that what ran represents
pub record Plays (width : ℕ) (before : Running) (commands : List Command) (old new : List ℕ) (after : Running) : Type 0 where
  pub limits : after.limits ≡ before.limits
  pub plays : (system : System) → StandsForSystem before system → PlaysFrom width system before.limits commands old new after

-- a text is all that is printed for the commands
abbrev pub PrintsAll : ℕ → Running → List Command → List ℕ → Type 0
PrintsAll width running commands text = (system : System) → StandsForSystem running system → text ≡ printed_from running.limits width system commands
