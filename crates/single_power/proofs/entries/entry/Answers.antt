-- `entry` meets its contract: each arm has the row of the table that its number names, and the last
-- the table's end. Assumes nothing.
use mathlib.Core.Path.{refl}
use Rattle.power.specs.Table.{power_table}
use Rattle.single_power.proofs.Arms.{past}
use Rattle.single_power.proofs.Rows.{entry-of-row, end-of-rows}
use Rattle.single_power.proofs.entries.entry.Goals as goal

pub returns-in-0 : goal.returns-in-0
unfolding power_table
returns-in-0 c = entry-of-row 0 _ c.in-0.is c.of_row.ensures refl

pub returns-in-1 : goal.returns-in-1
unfolding power_table
returns-in-1 c = entry-of-row 1 _ c.in-1.is c.of_row-in-1.ensures refl

pub returns-in-2 : goal.returns-in-2
unfolding power_table
returns-in-2 c = entry-of-row 2 _ c.in-2.is c.of_row-in-2.ensures refl

pub returns-in-3 : goal.returns-in-3
unfolding power_table
returns-in-3 c = entry-of-row 3 _ c.in-3.is c.of_row-in-3.ensures refl

pub returns-in-4 : goal.returns-in-4
unfolding power_table
returns-in-4 c = entry-of-row 4 _ c.in-4.is c.of_row-in-4.ensures refl

pub returns-in-5 : goal.returns-in-5
unfolding power_table
returns-in-5 c = entry-of-row 5 _ c.in-5.is c.of_row-in-5.ensures refl

pub returns-in-6 : goal.returns-in-6
unfolding power_table
returns-in-6 c = entry-of-row 6 _ c.in-6.is c.of_row-in-6.ensures refl

pub returns-in-7 : goal.returns-in-7
unfolding power_table
returns-in-7 c = entry-of-row 7 _ c.in-7.is c.of_row-in-7.ensures refl

pub returns-in-8 : goal.returns-in-8
unfolding power_table
returns-in-8 c = entry-of-row 8 _ c.in-8.is c.of_row-in-8.ensures refl

pub returns-in-9 : goal.returns-in-9
unfolding power_table
returns-in-9 c = entry-of-row 9 _ c.in-9.is c.of_row-in-9.ensures refl

pub returns-in-10 : goal.returns-in-10
unfolding power_table
returns-in-10 c = entry-of-row 10 _ c.in-10.is c.of_row-in-10.ensures refl

pub returns-in-11 : goal.returns-in-11
unfolding power_table
returns-in-11 c = entry-of-row 11 _ c.in-11.is c.of_row-in-11.ensures refl

pub returns-in-12 : goal.returns-in-12
unfolding power_table
returns-in-12 c = entry-of-row 12 _ c.in-12.is c.of_row-in-12.ensures refl

pub returns-in-13 : goal.returns-in-13
unfolding power_table
returns-in-13 c = entry-of-row 13 _ c.in-13.is c.of_row-in-13.ensures refl

pub returns-in-14 : goal.returns-in-14
unfolding power_table
returns-in-14 c = entry-of-row 14 _ c.in-14.is c.of_row-in-14.ensures refl

pub returns-in-15 : goal.returns-in-15
unfolding power_table
returns-in-15 c = entry-of-row 15 _ c.in-15.is c.of_row-in-15.ensures refl

pub returns-in-16 : goal.returns-in-16
unfolding power_table
returns-in-16 c = entry-of-row 16 _ c.in-16.is c.of_row-in-16.ensures refl

pub returns-in-17 : goal.returns-in-17
unfolding power_table
returns-in-17 c = entry-of-row 17 _ c.in-17.is c.of_row-in-17.ensures refl

pub returns-in-18 : goal.returns-in-18
unfolding power_table
returns-in-18 c = entry-of-row 18 _ c.in-18.is c.of_row-in-18.ensures refl

pub returns-in-19 : goal.returns-in-19
unfolding power_table
returns-in-19 c = entry-of-row 19 _ c.in-19.is c.of_row-in-19.ensures refl

pub returns-in-20 : goal.returns-in-20
unfolding power_table
returns-in-20 c = entry-of-row 20 _ c.in-20.is c.of_row-in-20.ensures refl

pub returns-in-21 : goal.returns-in-21
unfolding power_table
returns-in-21 c = entry-of-row 21 _ c.in-21.is c.of_row-in-21.ensures refl

pub returns-in-22 : goal.returns-in-22
unfolding power_table
returns-in-22 c = entry-of-row 22 _ c.in-22.is c.of_row-in-22.ensures refl

pub returns-in-23 : goal.returns-in-23
unfolding power_table
returns-in-23 c = entry-of-row 23 _ c.in-23.is c.of_row-in-23.ensures refl

pub returns-in-24 : goal.returns-in-24
unfolding power_table
returns-in-24 c = entry-of-row 24 _ c.in-24.is c.of_row-in-24.ensures refl

pub returns-in-25 : goal.returns-in-25
unfolding power_table
returns-in-25 c = entry-of-row 25 _ c.in-25.is c.of_row-in-25.ensures refl

pub returns-in-26 : goal.returns-in-26
unfolding power_table
returns-in-26 c = entry-of-row 26 _ c.in-26.is c.of_row-in-26.ensures refl

pub returns-in-27 : goal.returns-in-27
unfolding power_table
returns-in-27 c = entry-of-row 27 _ c.in-27.is c.of_row-in-27.ensures refl

pub returns-in-28 : goal.returns-in-28
unfolding power_table
returns-in-28 c = entry-of-row 28 _ c.in-28.is c.of_row-in-28.ensures refl

pub returns-in-29 : goal.returns-in-29
unfolding power_table
returns-in-29 c = entry-of-row 29 _ c.in-29.is c.of_row-in-29.ensures refl

pub returns-in-30 : goal.returns-in-30
unfolding power_table
returns-in-30 c = entry-of-row 30 _ c.in-30.is c.of_row-in-30.ensures refl

pub returns-in-31 : goal.returns-in-31
unfolding power_table
returns-in-31 c = entry-of-row 31 _ c.in-31.is c.of_row-in-31.ensures refl

pub returns-in_default : goal.returns-in_default
returns-in_default c = end-of-rows _ c.requires (past 32 _ c.in_default.in_default-own.rest)
