use Rattle.std.proofs.Common.{◌≡◌, ◌∙◌}
use Rattle.clauses.specs.Books.{clauses_of}
use Rattle.nestfile.specs.Problems.{told}
use Rattle.finder.specs.Bodies.{atoms_of}
use Rattle.finder.proofs.Holding.{same_admitted}
use Rattle.finder.proofs.Told.{few_is, near_is, fits_is, stands_is}
use Rattle.finder.proofs.settings.session_of.Goals as goal

pub returns-clause-meaning : goal.returns-clause-meaning
returns-clause-meaning c = c.in-Ok.ensures.meaning ∙ c.veto_of.ensures.meaning

pub returns-clause-stands : goal.returns-clause-stands
returns-clause-stands c =
    let h = c.args.problem.now in
    let n = c.atoms.result in
    let cs = clauses_of c.outer-held.result.now in
    let atoms : n ≡ atoms_of (told h) = c.atoms.ensures ∙ c.outer-held.ensures.atoms in
    stands_is h c.in-Ok.session.table n cs atoms c.outer-held.ensures.rows (c.in-Ok.ensures.stands (few_is h n atoms) (near_is h _ n c.veto_of.ensures.meaning atoms) (fits_is h n cs atoms c.outer-held.ensures.rows))

pub returns-clause-admits : goal.returns-clause-admits
returns-clause-admits c = λ q. same_admitted (told c.args.problem.now) _ (c.in-Ok.ensures.meaning ∙ c.veto_of.ensures.meaning) q

pub unreachable-requires : goal.unreachable-requires
unreachable-requires c =
    let h = c.args.problem.now in
    let n = c.atoms.result in
    let cs = clauses_of c.outer-held.result.now in
    let atoms : n ≡ atoms_of (told h) = c.atoms.ensures ∙ c.outer-held.ensures.atoms in
    c.in-Err.ensures.stands (few_is h n atoms) (near_is h _ n c.veto_of.ensures.meaning atoms) (fits_is h n cs atoms c.outer-held.ensures.rows)
