-- The lines that come of a problem. Assumes nothing.
use Rattle.std.specs.Prelude.{List}
use Rattle.nestformat.specs.Items.{Problem}
use Rattle.listing.specs.Lines.{Said, all_lines}
use Rattle.listing.specs.Settings.{settings}
use Rattle.finder.specs.Bodies.{atoms_of, clauses_of}
use Rattle.finder.specs.Meanings.{file_means}

-- the map and the atoms, each of the first settings, ascending, and their number or that there are more
abbrev pub file_lines : Problem → List Said
file_lines p = all_lines p.map (atoms_of p) (settings (file_means p) (atoms_of p) (clauses_of p))
