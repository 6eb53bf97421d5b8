-- `name_reads::read` meets its contract: the search finds the place of the name that has the number. Assumes nothing.
use Rattle.std.proofs.Common.{rules, ◌≡◌, sym, ap, ◌∙◌, length, slice_get, Some, None, option_and_then}
use Rattle.name_reads.specs.Search.{last_place}
use Rattle.name_reads.proofs.Searching.{search-hit, search-none, item-copied, searched-read}
use Rattle.name_reads.proofs.read.Goals as goal

pub returns-in_err-at : goal.returns-in_err-at
returns-in_err-at g c =
    let xs = c.table.result.now in
    let none : last_place xs c.args.n ≡ None = search-none xs c.args.n (length xs) (search rules) in
    let read = searched-read g.N.Name.entries g.N.Name.number g.met.N.Name.apart c.args.n in
    let given : c.from_residual.result ≡ None = search rules in
    given
    ∙ ap (option_and_then (slice_get g.N.Name.entries.names)) (sym none ∙ ap (λ l. last_place l c.args.n) c.table.ensures)
    ∙ read

pub returns : goal.returns
returns g c =
    let xs = c.table.result.now in
    let at = c.in_ok-at.at in
    let some : last_place xs c.args.n ≡ Some at = search-hit xs c.args.n (length xs) at (search rules) (search rules) (search rules) in
    let read = searched-read g.N.Name.entries g.N.Name.number g.met.N.Name.apart c.args.n in
    let given : c.copied.result ≡ slice_get g.N.Name.entries.names at =
    c.copied.ensures
    ∙ item-copied c.names.result.now at c.get.result c.get.ensures.lookup
    ∙ ap (λ l. slice_get l at) c.names.ensures in
    given
    ∙ ap (option_and_then (slice_get g.N.Name.entries.names)) (sym some ∙ ap (λ l. last_place l c.args.n) c.table.ensures)
    ∙ read
