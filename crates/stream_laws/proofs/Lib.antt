pub mod StreamsByLinks
