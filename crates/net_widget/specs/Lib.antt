pub mod Widgets
