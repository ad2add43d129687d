pub mod LinkEdit
