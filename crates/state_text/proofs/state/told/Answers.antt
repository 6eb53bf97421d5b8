-- `state_text::state::told` meets its contract: row by row, by the contract of what is called. Assumes nothing.
use mathlib.Core.Path.{refl}
use lib.Dec.{lit<}
use lib.ListN.{get_or}
use Rattle.records.specs.Start.{start_target}
use Rattle.state_text.specs.Told.{row_at}
use Rattle.state_text.proofs.RowLaws.{tells, at_row, target-short}
use Rattle.state_text.proofs.state.told.Goals as goal

pub returns-in-0 : goal.returns-in-0
returns-in-0 c =
    let a = c.args in
    at_row a.s.now a.i c.in-0.is (tells (row_at a.s.now 0) a.i 49 c.number.ensures tt (lit< tt) refl)

pub returns-in-1 : goal.returns-in-1
returns-in-1 c =
    let a = c.args in
    at_row a.s.now a.i c.in-1.is (tells (row_at a.s.now 1) a.i 50 c.primitive.ensures tt (lit< tt) refl)

pub returns-in-2 : goal.returns-in-2
returns-in-2 c =
    let a = c.args in
    at_row a.s.now a.i c.in-2.is (tells (row_at a.s.now 2) a.i 51 c.index.ensures tt (lit< tt) refl)

pub returns-in-3 : goal.returns-in-3
returns-in-3 c =
    let a = c.args in
    at_row a.s.now a.i c.in-3.is (tells (row_at a.s.now 3) a.i 52 c.slot.ensures tt (lit< tt) refl)

pub returns-in-4 : goal.returns-in-4
returns-in-4 c =
    let a = c.args in
    at_row a.s.now a.i c.in-4.is (tells (row_at a.s.now 4) a.i 53 c.attribute.ensures tt (lit< tt) refl)

pub returns-in-5 : goal.returns-in-5
returns-in-5 c =
    let a = c.args in
    at_row a.s.now a.i c.in-5.is (tells (row_at a.s.now 5) a.i 54 c.color_target.ensures tt (target-short (get_or a.s.now.fixed.color_targets a.i start_target)) refl)

pub returns-in-6 : goal.returns-in-6
returns-in-6 c =
    let a = c.args in
    at_row a.s.now a.i c.in-6.is (tells (row_at a.s.now 6) a.i 55 c.stencil.ensures tt (lit< tt) refl)

pub returns-in-7 : goal.returns-in-7
returns-in-7 c =
    let a = c.args in
    at_row a.s.now a.i c.in-7.is (tells (row_at a.s.now 7) a.i 56 c.stencil-in-7.ensures tt (lit< tt) refl)

pub returns-in-8 : goal.returns-in-8
returns-in-8 c =
    let a = c.args in
    at_row a.s.now a.i c.in-8.is (tells (row_at a.s.now 8) a.i 57 c.bias.ensures tt (lit< tt) refl)

pub returns-in-9 : goal.returns-in-9
returns-in-9 c =
    let a = c.args in
    at_row a.s.now a.i c.in-9.is (tells (row_at a.s.now 9) a.i 58 c.flag.ensures tt (lit< tt) refl)

pub returns-in-10 : goal.returns-in-10
returns-in-10 c =
    let a = c.args in
    at_row a.s.now a.i c.in-10.is (tells (row_at a.s.now 10) a.i 59 c.sampler.ensures tt (lit< tt) refl)

pub returns-in-11 : goal.returns-in-11
returns-in-11 c =
    let a = c.args in
    at_row a.s.now a.i c.in-11.is (tells (row_at a.s.now 11) a.i 60 c.unit.ensures tt (lit< tt) refl)

pub returns-in-12 : goal.returns-in-12
returns-in-12 c =
    let a = c.args in
    at_row a.s.now a.i c.in-12.is (tells (row_at a.s.now 12) a.i 61 c.render_size.ensures tt (lit< tt) refl)

pub returns-in-13 : goal.returns-in-13
returns-in-13 c =
    let a = c.args in
    at_row a.s.now a.i c.in-13.is (tells (row_at a.s.now 13) a.i 62 c.resolve.ensures tt (lit< tt) refl)

pub returns-in-14 : goal.returns-in-14
returns-in-14 c =
    let a = c.args in
    at_row a.s.now a.i c.in-14.is (tells (row_at a.s.now 14) a.i 63 c.invalidate.ensures tt (lit< tt) refl)

pub returns-in-15 : goal.returns-in-15
returns-in-15 c =
    let a = c.args in
    at_row a.s.now a.i c.in-15.is (tells (row_at a.s.now 15) a.i 64 c.flag-in-15.ensures tt (lit< tt) refl)

pub returns-in-16 : goal.returns-in-16
returns-in-16 c =
    let a = c.args in
    at_row a.s.now a.i c.in-16.is (tells (row_at a.s.now 16) a.i 65 c.masks.ensures tt (lit< tt) refl)

pub returns-in-17 : goal.returns-in-17
returns-in-17 c =
    let a = c.args in
    at_row a.s.now a.i c.in-17.is (tells (row_at a.s.now 17) a.i 66 c.instance.ensures tt (lit< tt) refl)

pub returns-in-18 : goal.returns-in-18
returns-in-18 c =
    let a = c.args in
    at_row a.s.now a.i c.in-18.is (tells (row_at a.s.now 18) a.i 67 c.optional.ensures tt (lit< tt) refl)

pub returns-in-19 : goal.returns-in-19
returns-in-19 c =
    let a = c.args in
    at_row a.s.now a.i c.in-19.is (tells (row_at a.s.now 19) a.i 68 c.descriptor.ensures tt (lit< tt) refl)

pub returns-in-20 : goal.returns-in-20
returns-in-20 c =
    let a = c.args in
    at_row a.s.now a.i c.in-20.is (tells (row_at a.s.now 20) a.i 69 c.word.ensures tt (lit< tt) refl)

pub returns-in-21 : goal.returns-in-21
returns-in-21 c =
    let a = c.args in
    at_row a.s.now a.i c.in-21.is (tells (row_at a.s.now 21) a.i 70 c.optional-in-21.ensures tt (lit< tt) refl)

pub returns-in-22 : goal.returns-in-22
returns-in-22 c =
    let a = c.args in
    at_row a.s.now a.i c.in-22.is (tells (row_at a.s.now 22) a.i 71 c.number-in-22.ensures tt (lit< tt) refl)
