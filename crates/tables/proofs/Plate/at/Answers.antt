use Rattle.std.proofs.Common.{◌≡◌, false, get_or, sym, ◌∙◌}
use Rattle.families.specs.Families.{lengths, generators, pairs}
use Rattle.families.proofs.Families.{entry, family_pos}
use Rattle.tables.proofs.Plate.at.Goals as goal
use Rattle.tables.proofs.Plate.at.Goals.{then-family, else-family}

pub invariant_of-result : goal.invariant_of-result
invariant_of-result c =
    let f = c.args.f in
    let of = c.family_of-family in
    let cells : of.result.n ≡ get_or lengths f 0 = of.ensures.0 ∙ entry 0 lengths f in
    let generator : of.result.g ≡ get_or generators f 0 = of.ensures.1 ∙ entry 0 generators f in
    let carries : get_or pairs f false ≡ of.result.pairs = sym (of.ensures.2 ∙ entry false pairs f) in
    record {
      family = record { row = c.requires; length = cells; degree = rw generator at (c.degree_of.ensures.holds (rw generator (family_pos f c.requires))) };
      generator = generator;
      carried =
          elim c.if-family.branch [
            | then-family w ↦ rw (w.result-is, carries, w.if-family.true)
            | else-family w ↦ rw (w.result-is, carries, w.if-family.false)
          ];
    }
