-- What reading a part of a message answers (own).
use Rattle.std.specs.Prelude.{◌≡◌, ◌≤◌, ◌<◌, ◌++◌, length, ℕ, List, Option, Some, None, Result, Ok, Err}
use Rattle.gw_text.specs.SpaceScan.{skip}
use Rattle.gw_text.specs.Reader.{Reader}
use Rattle.gw_text.specs.declared.fault.ParseFault.{ParseFault}
use Rattle.gw_text.specs.declared.fault.ParseFault.TheVariants.{Syntax, NoMemory}

-- What a function returned, and where it left its cursor, is what reading gives, unless memory ran out.
abbrev pub Gives : {V : Type 0} → Result V ParseFault → List ℕ → Option (V × List ℕ) → Type 0
Gives (Ok x) new at = at ≡ Some (x, new)
Gives (Err Syntax) new at = at ≡ None
Gives (Err NoMemory) new at = Unit {0}

-- The same of a function that takes no memory.
abbrev pub Finds : {V : Type 0} → Result V ParseFault → List ℕ → Option (V × List ℕ) → Type 0
Finds (Ok x) new at = at ≡ Some (x, new)
Finds (Err Syntax) new at = at ≡ None
Finds (Err NoMemory) new at = ⊥

-- what is left is no longer than what there was
abbrev pub Shrinks : {V : Type 0} → Reader V → Type 0
Shrinks {V} read = (text : List ℕ) (v : V) (rest : List ℕ) → read text ≡ Some (v, rest) → length rest ≤ length text

-- what is left is shorter than what there was
abbrev pub ShrinksMore : {V : Type 0} → Reader V → Type 0
ShrinksMore {V} read = (text : List ℕ) (v : V) (rest : List ℕ) → read text ≡ Some (v, rest) → length rest < length text

-- What is read at the front of a text has the form.
abbrev pub ReadsOnly : {V : Type 0} → Reader V → (V → List ℕ → Type 0) → Type 0
ReadsOnly {V} read Form = (text : List ℕ) (v : V) (rest : List ℕ) → read text ≡ Some (v, rest) → (front : List ℕ) × (text ≡ front ++ rest) × Form v front

-- Each text of the form is read, where what may follow it does, and but for white space nothing else is.
abbrev pub ReadsEach : {V : Type 0} → Reader V → (V → List ℕ → Type 0) → (List ℕ → Type 0) → Type 0
ReadsEach {V} read Form Next = (v : V) (front rest : List ℕ) → Form v front → Next rest → (after : List ℕ) × (read (front ++ rest) ≡ Some (v, after)) × (skip after ≡ skip rest)

-- A text has the form for one value at most.
abbrev pub IsOne : {V : Type 0} → (V → List ℕ → Type 0) → Type 0
IsOne {V} Form = (text : List ℕ) (v w : V) → Form v text → Form w text → v ≡ w
