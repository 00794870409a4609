-- Lines that are of no form.
use Rattle.std.proofs.Common.{◌≡◌, ℕ, ◌≤◌, List, [], ◌∷◌, ◌++◌, length, refl, ap, sym, ◌∙◌, arith, subst, length-append, codes, false}
use Rattle.std.proofs.lemmas.List.{append-nil, append_cancel_left}
use Rattle.std.specs.Prelude.{Option, Some, None, MatchOption}
use Rattle.std.proofs.lemmas.Bool.{and_parts as and_true}
use Rattle.std.specs.List.{list_all}
use Rattle.gw_base.specs.Bytes.{is_digit}
use Rattle.gw_text.specs.Runs.{begins}
use Rattle.gw_text.specs.Longest.{IsLongest}
use Rattle.gw_text.specs.Forms.{IsSomeRun, IsUint32, HasNoNumber}
use Rattle.gw_text.specs.Scans.{uint32_digits, uint32_max}
use Rattle.gw_text.specs.declared.fault.ScanFault.{ScanFault}
use Rattle.gw_text.specs.declared.fault.ScanFault.TheVariants.{Unexpected, Overflow, TooDeep}
use Rattle.gw_config.specs.declared.item.Item.{Item}
use Rattle.gw_config.specs.declared.item.Item.TheVariants.{Nothing, Mid, Media, Contexts, Slots, Members, Keep, Term}
use Rattle.gw_config.specs.ConfigTexts.{Says, IsSkipped, IsMidLine, IsMediaLine, IsTermLine, IsNumberLine}

-- ---- numbers

no_bytes : (rest : List ℕ) → length rest ≤ 0 → rest ≡ []
no_bytes [] h = refl
no_bytes (b ∷ bs) h = absurd (omega arith)

-- the longest front of a text of the form is the text
pub whole : (IsForm : List ℕ → Type 0) (text span rest : List ℕ) → IsLongest IsForm text span rest → IsForm text → rest ≡ []
whole IsForm text span rest h is =
    no_bytes rest (omega (arith, h.longest text [] (sym (append-nil text)) is, ap length h.split, length-append span rest))

pub some_run : (n : ℕ) (text : List ℕ) → IsUint32 n text → IsSomeRun is_digit text
some_run n text is = record { run = is.digits; some = is.some }

begins_run : (text : List ℕ) → IsSomeRun is_digit text → begins is_digit text ≡ false → ⊥
begins_run [] is h = absurd (let some = is.some in omega arith)
begins_run (b ∷ bs) is h = let first = and_true (is_digit b) (list_all is_digit bs) is.run in absurd cc

pub no_uint32 : (text : List ℕ) (e : ScanFault) → HasNoNumber uint32_digits uint32_max e text → (n : ℕ) → ¬ IsUint32 n text
no_uint32 text Unexpected h n = λ is. begins_run text (some_run n text is) h
no_uint32 text Overflow h n = λ is.
    let end = whole (IsSomeRun is_digit) text h.0 h.1 h.2 (some_run n text is) in
    let same : text ≡ h.0 = h.2.split ∙ ap (λ (z : List ℕ). h.0 ++ z) end ∙ append-nil h.0 in
    h.3 n (subst (IsUint32 n) same is)
no_uint32 text TooDeep h n = λ is. h

pub number_line : (keyword rest line : List ℕ) (r : Option ℕ) → line ≡ keyword ++ rest → MatchOption r ((n : ℕ) → ¬ IsUint32 n rest) (λ n. IsUint32 n rest) → MatchOption r ((n : ℕ) → ¬ IsNumberLine keyword n line) (λ n. IsNumberLine keyword n line)
number_line keyword rest line None e none = λ n h. none n (subst (IsUint32 n) (append_cancel_left keyword h.0 rest (sym h.1 ∙ e)) h.2)
number_line keyword rest line (Some n) e is = (rest, e, is)

-- ---- a whole line

pub no_item : (line : List ℕ) → ¬ IsSkipped line → ((v : List ℕ) → ¬ IsMidLine v line) → ((v : List ℕ) → ¬ IsMediaLine v line) → ((v : List ℕ) → ¬ IsTermLine v line)
    → ((n : ℕ) → ¬ IsNumberLine (codes "contexts ") n line) → ((n : ℕ) → ¬ IsNumberLine (codes "slots ") n line) → ((n : ℕ) → ¬ IsNumberLine (codes "members ") n line) → ((n : ℕ) → ¬ IsNumberLine (codes "keep ") n line)
    → (item : Item) → ¬ Says item line
no_item line nothing mid media term contexts slots members keep Nothing = nothing
no_item line nothing mid media term contexts slots members keep (Mid v) = mid v
no_item line nothing mid media term contexts slots members keep (Media v) = media v
no_item line nothing mid media term contexts slots members keep (Contexts n) = contexts n
no_item line nothing mid media term contexts slots members keep (Slots n) = slots n
no_item line nothing mid media term contexts slots members keep (Members n) = members n
no_item line nothing mid media term contexts slots members keep (Keep n) = keep n
no_item line nothing mid media term contexts slots members keep (Term v) = term v
