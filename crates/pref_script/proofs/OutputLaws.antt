-- The output of a script, section by section.
use Rattle.pref_script.proofs.Common.{◌≡◌, ℕ, ◌+◌, ◌<◌, List, ◌∷◌, length, arith, refl, Ok, Err, true, ◌⊎◌, Result, after_first, before_first, concat, Global, IfErr}
use Rattle.pref_script.proofs.Common.{IfOk, String, string_bytes, position_or_len, Fails, Table, table_of, Limits, Script, ScriptFault, PrintsOutput, in_bytes, output_of, script_of}
use Rattle.pref_script.proofs.Common.{script_with, core_fault, table_fault, Sections, is_end_line, is_table_line, sections_of, raw_lines, RunFault, CoreFault}
use Rattle.pref_table.specs.declared.fault.TableFault.{TableFault}
use Rattle.pref_core.specs.declared.fault.CoreFault.TheVariants as core
use Rattle.pref_script.specs.declared.fault.RunFault.TheVariants as fault

-- how a script with a table block is cut
pub record IsCut (lines : List (List ℕ)) (sections : Sections) : Type 0 where
  pub first : List ℕ
  pub rest : List (List ℕ)
  pub lines_are : lines ≡ first ∷ rest
  pub table : is_table_line first ≡ true
  pub inside : position_or_len is_end_line rest < length rest
  pub sections_are : ◌≡◌ {A = Sections} (record { table = concat (before_first is_end_line rest); commands = after_first is_end_line rest; first = position_or_len is_end_line rest + 3 }) sections

pub cut_of : (lines : List (List ℕ)) (sections : Sections) → sections_of lines ≡ Ok sections → IsCut lines sections
cut_of lines sections h = grind (arith)

pub script-sections : (limits : Limits) (bytes : List ℕ) (why : RunFault) → sections_of (raw_lines bytes) ≡ Err why → script_of limits bytes ≡ Err why
unfolding script_of
script-sections limits bytes why h = rw h refl

pub script-sections-fault : (limits : Limits) (bytes : List ℕ) (why : RunFault) → sections_of (raw_lines bytes) ≡ Err why → ScriptFault why (script_of limits bytes)
unfolding script_of
script-sections-fault limits bytes why h = grind (arith)

-- a table's fault is the script's
pub script-table-fault : (limits : Limits) (bytes : List ℕ) (sections : Sections) (why : TableFault) → sections_of (raw_lines bytes) ≡ Ok sections → Fails why (table_of sections.table)
    → ScriptFault (table_fault why) (script_of limits bytes)
unfolding script_of
script-table-fault limits bytes sections why h t = grind (arith)

-- rows without room are the engine's refusal
pub script-core-fault : (limits : Limits) (bytes : List ℕ) (sections : Sections) (table : Table) (why : CoreFault) → sections_of (raw_lines bytes) ≡ Ok sections → table_of sections.table ≡ Ok table
    → (limits.capacity < length table.1 → why ≡ core.Full (length table.1)) → (why ≡ core.OutOfMemory) ⊎ (limits.capacity < length table.1)
    → ScriptFault (core_fault why) (script_of limits bytes)
unfolding script_of
script-core-fault limits bytes sections table why h t full which = grind (arith)

-- a script without a fault
pub script-ok : (limits : Limits) (bytes : List ℕ) (sections : Sections) (table : Table) → sections_of (raw_lines bytes) ≡ Ok sections → table_of sections.table ≡ Ok table
    → (limits.capacity < length table.1 → ⊥) → script_of limits bytes ≡ Ok (script_with sections table)
unfolding script_of
script-ok limits bytes sections table h t room = grind (arith)

-- what a script without a fault prints, unless memory runs out
pub prints-played : (limits : Limits) (bytes : List ℕ) (script : Script) (result : Result (String Global) RunFault) → script_of limits bytes ≡ Ok script
    → IfOk result (λ text. string_bytes text ≡ output_of limits (Ok script)) → IfErr result (λ why. why ≡ fault.Memory) → PrintsOutput limits bytes (in_bytes result)
prints-played limits bytes script result said returned memory = grind (arith)
