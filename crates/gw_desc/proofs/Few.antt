-- What stands twice is not in a list of one.
use Rattle.std.proofs.Common.{◌≡◌, ◌<◌, ◌==◌, ◌||◌, cond, Bool, true, false, List, [], ◌∷◌, ◌++◌, length, refl, ap, ◌∙◌, arith}
use Rattle.std.specs.List.{list_any}
use Rattle.std.proofs.lemmas.Bool.Decides.{nat_tests}
use Rattle.std.proofs.lemmas.List.{append-nil}
use Rattle.std.proofs.lemmas.List.Sums.{count_by-le-length}
use Rattle.gw_desc.specs.declared.descriptor.MediaPart.{MediaPart}
use Rattle.gw_desc.specs.declared.descriptor.MediaPart.TheVariants as media
use Rattle.gw_desc.specs.declared.descriptor.StreamPart.{StreamPart}
use Rattle.gw_desc.specs.declared.descriptor.StreamPart.TheVariants as part
use Rattle.gw_desc.specs.Checks.{first_stream, has_part_twice, is_state, is_stream_twice, numbers_in}
use Rattle.gw_desc.specs.Twice.{has_two, has_number_twice}

pub none_of_one : {T : Type 0} (is_so : T → Bool) (list : List T) → length list < 2 → has_two is_so list ≡ false
none_of_one is_so list h = grind (arith, count_by-le-length, nat_tests)

-- once more the same
again : (b : Bool) → ((b || false) || b) ≡ (b || false)
again b = grind arith

of_stream : (t : Bool) (own : List StreamPart) → ((has_part_twice own || false) || has_part_twice (cond t own [] ++ [])) ≡ (has_part_twice own || false)
unfolding has_part_twice
of_stream true own = ap (λ (l : List StreamPart). (has_part_twice own || false) || has_part_twice l) (append-nil own) ∙ again (has_part_twice own)
of_stream false own = grind arith

pub none_of_one_part : (parts : List MediaPart) → length parts < 2
    → (has_two is_state parts || has_number_twice (numbers_in parts) || list_any is_stream_twice parts || has_part_twice (first_stream parts)) ≡ list_any is_stream_twice parts
unfolding has_part_twice has_number_twice
none_of_one_part [] h = refl
none_of_one_part (media.Outside (part.Local text) ∷ []) h = refl
none_of_one_part (media.Outside (part.Remote text) ∷ []) h = refl
none_of_one_part (media.Outside (part.LocalControl properties) ∷ []) h = refl
none_of_one_part (media.Stream number own ∷ []) h = of_stream (number == 1) own
none_of_one_part (media.TerminationState properties ∷ []) h = refl
none_of_one_part (first ∷ second ∷ rest) h = absurd (omega arith)
