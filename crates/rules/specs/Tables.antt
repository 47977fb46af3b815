-- The tables that a build's structs of lent lists hold.
use Rattle.table.specs.declared.checking.Entries.{Entries}
use Rattle.fields.specs.Runs.{EntryLists, entry_lists}
use Rattle.rules.specs.declared.split.Split.{Split}
use Rattle.rules.specs.Splitting.{SplitRules, split_rules}

abbrev pub listed_in : Entries → EntryLists
listed_in e = entry_lists e.value.now e.length.now e.hop.now

abbrev pub tables : Split → SplitRules
tables s =
    let d = listed_in s.destinations in
    let e = listed_in s.sources in
    split_rules s.first.now d.vals d.lens d.hops e.vals e.lens e.hops
