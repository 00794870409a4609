use Rattle.std.proofs.Common.{inl, inr, refl, codes, arith}
use Rattle.gw_program.proofs.gateway.gateway.Goals as goal

-- an address in brackets, and a port
pub mid-requires : goal.mid-requires
mid-requires c = inl (record {
  front = codes "[";
  back = codes "10.0.0.1]:2944";
  split = refl;
  first = refl;
  second = record {
    front = codes "10.0.0.1";
    back = codes "]:2944";
    split = refl;
    first = record { some = omega arith; short = omega arith; each = refl };
    second = record {
      front = codes "]";
      back = codes ":2944";
      split = refl;
      first = refl;
      second = inr (record { front = codes ":"; back = codes "2944"; split = refl; first = refl; second = record { some = omega arith; short = omega arith; each = refl; small = omega arith } });
    };
  };
})
