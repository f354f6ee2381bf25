-- What the faults of reading an input say. (this project)
use Rattle.std.specs.Prelude.{ℕ, ◌≡◌, ◌<◌, ⊤, Bool, true, List, length, Option, IfSome}
use Rattle.pref_script.specs.declared.fault.RunFault.{RunFault}
use Rattle.pref_script.specs.declared.fault.RunFault.TheVariants.{Read, TooLarge, Memory}

-- a reader had more bytes than a script may have
abbrev pub HadTooMany : Option (List ℕ) → Type 0
HadTooMany had = IfSome had (λ bytes. 16777216 < length bytes)

-- why an input wasn't read, of the bytes that the reader had and of whether it has failed
abbrev pub InputFault : Option (List ℕ) → Bool → RunFault → Type 0
InputFault had failed Read = failed ≡ true
InputFault had failed TooLarge = HadTooMany had
InputFault had failed Memory = ⊤
InputFault had failed other = ⊥
