mod BeganLemmas
mod CalmLemmas
mod LineLemmas
mod NowhereLemmas
mod PieceLemmas
mod QuietLemmas
mod UntouchedLemmas
mod StoodLemmas
