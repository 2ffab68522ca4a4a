-- Rows that lag behind others.
use Rattle.std.specs.Prelude.{List}
use Rattle.standings.specs.Moved.{turned}
use Rattle.standings.specs.Rows.{Row}
use Rattle.standings.specs.Spans.{Stays}
use Rattle.standings.specs.declared.lag.Lag.{Lag}

-- the first so many rows came behind the others, and then these alone differ (ours)
abbrev pub Lags : Lag → List Row → List Row → Type 0
Lags lag one other = Stays lag.span (turned lag.moved one) other
