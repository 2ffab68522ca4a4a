pub mod PendingText
