use Rattle.std.proofs.Common.{◌∙◌, sym}
use Rattle.std.proofs.lemmas.List.{get_or_default}
use Rattle.gw_draw.proofs.draw.carry.Goals as goal

pub f-requires : goal.f-requires
f-requires g c = c.requires.accepts c.args.place _ c.requires.inside c.index-jobs-place.is

pub returns : goal.returns
returns g c = record {
  inside = c.requires.inside;
  seen = _;
  shows = λ d. get_or_default c.args.jobs.now c.args.place d c.index-jobs-place.result c.requires.inside ∙ sym c.index-jobs-place.is;
  call = c.f.ensures;
}
