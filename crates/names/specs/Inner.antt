-- What the functions over a table of names promise, in the terms of `Sources`.
use Rattle.names.specs.declared.Entry.{Entry as Named}
use Rattle.names.specs.Sources.{Entry}

-- A name of a table, with what its spelling points to.
abbrev pub entry_of : Named → Entry
entry_of named = record { spelling = named.spelling.now; absent = named.absent }
