-- What the words of a check of many jobs name.
use Rattle.std.specs.Prelude.{◌≢◌, [], ◌++◌}
use Rattle.requests.specs.declared.many_words.ManyWords.{ManyWords}

-- one printer at least, or a text that names some
abbrev pub NamesPrinter : ManyWords → Type 0
NamesPrinter many = many.printers.items ++ many.fleets.items ≢ []
