mod ReadFiles
mod Binding
