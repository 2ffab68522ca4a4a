-- Private: places that are put behind others, as far as there is room.
use Rattle.std.specs.Prelude.{ℕ, ◌-◌, List, ◌++◌, length, take}
use Rattle.standings.specs.declared.place.Place.{Place}

-- places with others behind them, as many as there is room for in all
abbrev pub fitting : ℕ → List Place → List Place → List Place
fitting room places more = places ++ take (room - length places) more
